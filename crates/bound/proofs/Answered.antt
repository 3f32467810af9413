-- From what the calculation leaves of the allowance to what is answered. Assumes nothing.
use mathlib.Core.Path.{◌≡◌, refl, ap}
use mathlib.Core.Option.{none, some}
use Prim.Native.Nat.{ℕ, ◌-◌}
use native.Mathlib.Omega.{arith}
use borrow.Author.Tests.{lt-ltb, le-ltb}
use Rattle.std.specs.Prelude.{Option, None, Some, Result, Ok, Err, ok_or}
use Rattle.model.specs.declared.refusals.Refusal.{Refusal}
use Rattle.bound.specs.declared.Tally.{Tally}
use Rattle.bound.specs.declared.Sections.{Sections}
use Rattle.bound.specs.Sets.{Tasks, no_task, with}
use Rattle.bound.specs.Table.{refusal}
use Rattle.bound.specs.Interference.{level, bound}
use Rattle.bound.specs.Answer.{bounded, answer}
use Rattle.bound.specs.Computed.{resources_of, spend}
use Rattle.bound.proofs.Turns.{Of, Exceeded, lasted, exceeded}
use Rattle.bound.proofs.Masks.{mask_none}

-- what a refusal is told as
pub told_refused : (s : Sections) (t allowance n : ℕ) → refusal s t allowance ≡ some n → Err n ≡ answer s t allowance
unfolding answer
told_refused s t allowance n e = rw e

-- the sum that the code begins with is the bound's
pub spent_is
    : (s : Sections) (t allowance : ℕ) (drawn : Sections) (itself : Tasks) → drawn ≡ s → itself ≡ with no_task t
    → spend (level (s.tasks - 1) 12 drawn itself t None (resources_of 0)) allowance ≡ spend (bound s t) allowance
unfolding bound
spent_is s t allowance drawn itself d e = rw (d, e, mask_none)

module _ (s : Sections) (t allowance : ℕ) (free : refusal s t allowance ≡ none) where
  pub answer_of_lem : (v : ℕ) (u : Option ℕ) (l : ℕ) → Of v u l ≡ spend (bound s t) allowance → bounded v (allowance - l) ≡ answer s t allowance
  unfolding answer
  answer_of_lem v u l e =
      let h = lasted (bound s t) allowance v u l e in
      let spent : allowance - l ≡ (bound s t).weighings = omega arith in
      rw (free, le-ltb allowance (bound s t).weighings h.enough, h.value_is, spent)

  pub answer_exceeded : Exceeded ≡ spend (bound s t) allowance → Err 46 ≡ answer s t allowance
  unfolding answer
  answer_exceeded e = rw (free, lt-ltb allowance (bound s t).weighings (exceeded (bound s t) allowance e))

-- a tally as the code hands it on
pub found_some : (o : Option Tally) (tally : Tally) (refusal : Refusal) → Ok tally ≡ ok_or o refusal → o ≡ Some tally
found_some None tally refusal e = absurd (let z : ◌≡◌ {A = ℕ} 0 1 = cc in omega arith)
found_some (Some found) tally refusal e = ap Some (cc)

pub found_none : (o : Option Tally) (told refusal : Refusal) → ◌≡◌ {A = Result Tally Refusal} (Err told) (ok_or o refusal) → (o ≡ None) × (told ≡ refusal)
found_none None told refusal e = (refl, cc)
found_none (Some found) told refusal e = absurd (let z : ◌≡◌ {A = ℕ} 0 1 = cc in omega arith)
