-- Demand 1 over bytes. Assumes nothing.
use mathlib.Core.Path.{◌≡◌, refl}
use Rattle.model.specs.RuleH.{settled}
use Rattle.model.specs.Step.{state_after}
use Rattle.theory.proofs.Frames.{heads_kept}
use Rattle.theory.proofs.Outcomes.{stepped_has}
use Rattle.vesztamor.proofs.PastCounts.{CountsKept, sound_alike, executing_alike, step_alike, step_past}
use Rattle.promises.specs.Bytes.{PastUnread, PastUnasked, PastKept}

-- no event changes the counts
counts_kept : CountsKept
unfolding state_after settled
counts_kept st e =
    stepped_has (λ after. (after.tasks ≡ st.tasks) × (after.resources ≡ st.resources)) st e (refl, refl)
    (λ y h. ((heads_kept st e).1, (heads_kept st e).2))

pub past_unread : PastUnread
past_unread = step_alike counts_kept

pub past_unasked : PastUnasked
past_unasked a b alike = (sound_alike a b alike, executing_alike a b alike)

pub past_kept : PastKept
past_kept = step_past counts_kept
