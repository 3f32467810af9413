-- What the tests of an event say as the code makes them, in their order; and what is known where none refuses. Assumes nothing.
use Rattle.std.specs.Prelude.{Result, Ok, Err, ⊤}
use mathlib.Core.Path.{◌≡◌, refl, sym, ap, ◌∙◌}
use mathlib.Core.Bool.{Bool, true, false, not, ◌||◌}
use mathlib.Core.List.{List}
use mathlib.Core.Option.{some}
use Prim.Native.Nat.{ℕ}
use Rattle.laws.specs.Tests.{first_of, ◌when◌or◌, accepted}
use Rattle.laws.proofs.Cases.{holds_fails, first_no}
use Rattle.model.specs.declared.TaskNo.{TaskNo}
use Rattle.model.specs.declared.Task.{Task}
use Rattle.model.specs.declared.State.{State}
use Rattle.model.specs.declared.Event.{Event}
use Rattle.model.specs.declared.Event.TheVariants.{Wake, Suspend, Dispatch, Preempt, Elapse, Recharge, Lock, Unlock}
use Rattle.model.specs.declared.refusals.Refusal.{Refusal}
use Rattle.model.specs.Refusals.{refusal_no, numbered}
use Rattle.model.specs.State.{task_at, in_use, here, present, declares}
use Rattle.model.specs.Sound.{sound}
use Rattle.model.specs.Events.{number_of}
use Rattle.model.specs.Step.{stalled, tests}
use Rattle.model.specs.Verdicts.{Verdict, verdict, refused_if}
use Rattle.model.proofs.Refused.{verdict_if, told_if, passed_none, refused_some}
use Rattle.model.proofs.Stalled.{Acts, unstalled, stalled_some}
use Rattle.events.specs.Changes.{Clear}
use Rattle.events.specs.Computed.{elapses}

-- the last test of an event
pub last_test : (n : ℕ) (v : Verdict) (a b : Bool) → v ≡ refused_if n a → a ≡ b → v ≡ verdict (first_of (n when b or accepted))
last_test n v a b e q = e ∙ ap (refused_if n) q ∙ verdict_if n b

pub last_told
    : (refusal : Refusal) (told : Result ⊤ Refusal) (a b : Bool) → told ≡ refused_if refusal a → a ≡ b
    → numbered told ≡ verdict (first_of (refusal_no refusal when b or accepted))
last_told refusal told a b e q = last_test (refusal_no refusal) _ a b (told_if refusal a told e) q

-- where a task executes nowhere
pub is_none_not : (placed nowhere : Bool) → placed ≡ not nowhere → nowhere ≡ not placed
is_none_not placed true e = sym (ap not e)
is_none_not placed false e = sym (ap not e)

-- 2 of every event that names a number
pub unnamed : (st : State) (e : Event) → (elapses e || in_use st.tasks (number_of e)) ≡ false → Err 2 ≡ verdict (first_of (tests st e))
unfolding first_of here
unnamed st (Wake t) n = rw n
unnamed st (Suspend t) n = rw n
unnamed st (Dispatch s) n = rw n
unnamed st (Preempt s) n = rw n
unnamed st (Elapse k) n = holds_fails refl n
unnamed st (Recharge s) n = rw n
unnamed st (Lock t r) n = rw n
unnamed st (Unlock t r) n = rw n

-- 61 to 63 as the code has told them: one of them refuses a lock or an unlock that the tests before let through, or the task acts
module _ (task : Task) (told : Result ⊤ Refusal) (e : numbered told ≡ verdict (first_of (stalled task accepted))) where
  pub stall_acts : (u : ⊤) → told ≡ Ok u → Acts task
  stall_acts u h = (unstalled task accepted (passed_none _ told u e h)).0

  module _ (n : Refusal) (h : told ≡ Err n) (st : State) (t : TaskNo) (r : ℕ) (i : here st t.0 ≡ true) (p : present st r ≡ true) (k : task ≡ task_at st t.0) where
    refused_first : (following : List (ℕ × Bool)) → first_of (stalled (task_at st t.0) following) ≡ some (refusal_no n)
    refused_first following = rw (← k) (stalled_some task following (refusal_no n) (refused_some _ told n e h))

    pub lock_stalled : declares st t.0 r ≡ true → Err (refusal_no n) ≡ verdict (first_of (tests st (Lock t r)))
    lock_stalled d = sym (ap verdict (first_no _ _ _ (ap not i) ∙ first_no _ _ _ (ap not p) ∙ first_no _ _ _ (ap not d) ∙ refused_first _))

    pub unlock_stalled : Err (refusal_no n) ≡ verdict (first_of (tests st (Unlock t r)))
    unlock_stalled = sym (ap verdict (first_no _ _ _ (ap not i) ∙ first_no _ _ _ (ap not p) ∙ refused_first _))

-- an event that no test refuses is clear
pub passed_clear : (st : State) (e : Event) (told : Result ⊤ Refusal) (u : ⊤) → numbered told ≡ verdict (first_of (tests st e)) → sound st ≡ true → told ≡ Ok u → Clear st e
passed_clear st e told u h s a = record { is_sound = s; unrefused = passed_none _ told u h a }
