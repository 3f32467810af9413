-- The tests 61 to 63 taken apart: what is so where none of them refuses, that one of them that refuses does so whatever follows, and of which events
-- they are told. Assumes nothing.
use mathlib.Core.Path.{◌≡◌, refl}
use mathlib.Core.Bool.{Bool, true, false, not}
use mathlib.Core.List.{List, [], ◌∷◌}
use mathlib.Core.Option.{none, some}
use Prim.Native.Nat.{ℕ, ◌≤◌}
use native.Mathlib.Omega.{arith}
use lib.Dec.{ltb}
use borrow.Author.Tests.{not-false, ltb-true}
use Rattle.laws.specs.Tests.{accepted, first_of}
use Rattle.laws.proofs.Cases.{split, none_some, none_fails, none_later, first_fails, first_later}
use Rattle.model.specs.declared.Task.{Task}
use Rattle.model.specs.declared.State.{State}
use Rattle.model.specs.declared.Event.{Event}
use Rattle.model.specs.declared.Event.TheVariants.{Wake, Suspend, Dispatch, Preempt, Elapse, Recharge, Lock, Unlock}
use Rattle.model.specs.State.{here, suspended, waiting, placed}
use Rattle.model.specs.Events.{number_of}
use Rattle.model.specs.Step.{stalled, tests}
use Rattle.model.specs.Stalled.{Admitted}

-- neither suspended nor waiting, and it executes
abbrev pub Acts : Task → Type 0
Acts task = (suspended task.mode ≡ false) × (waiting task.mode ≡ false) × (placed task.runs ≡ true)

module _ (task : Task) (following : List (ℕ × Bool)) where
  pub unstalled : first_of (stalled task following) ≡ none → Acts task × (first_of following ≡ none)
  unstalled h61 =
      let h62 = none_later _ _ _ h61 in
      let h63 = none_later _ _ _ h62 in
      ((none_fails _ _ _ h61, none_fails _ _ _ h62, not-false _ (none_fails _ _ _ h63)), none_later _ _ _ h63)

  pub stalled_some : (n : ℕ) → first_of (stalled task accepted) ≡ some n → first_of (stalled task following) ≡ some n
  unfolding first_of
  stalled_some n h =
      split
      (suspended task.mode)
      (λ y. rw y (rw y at h))
      (λ f61.
      split
      (waiting task.mode)
      (λ y. rw (f61, y) (rw (f61, y) at h))
      (λ f62.
      split
      (not (placed task.runs))
      (λ y. rw (f61, f62, y) (rw (f61, f62, y) at h))
      (λ f63. none_some (rw (f61, f62, f63) at h))))

-- no tests tell nothing, and a test with a number below 61 tells none from 61 on
pub untold : {C : Type 0} (n : ℕ) → first_of [] ≡ some n → C
unfolding first_of
untold n h = none_some h

module _ (n : ℕ) (high : 61 ≤ n) where
  other : (m : ℕ) → ltb m 61 ≡ true → m ≡ n → ⊥
  other m l q = omega (arith, ltb-true m 61 l)

  passed : (m : ℕ) → ltb m 61 ≡ true → (b : Bool) (ts : List (ℕ × Bool)) → first_of ((m, not b) ∷ ts) ≡ some n → b ≡ true
  passed m l b ts h = not-false b (first_fails m n (not b) ts (other m l) h)

  pub later : (m : ℕ) → ltb m 61 ≡ true → (b : Bool) (ts : List (ℕ × Bool)) → first_of ((m, b) ∷ ts) ≡ some n → first_of ts ≡ some n
  later m l b ts h = first_later m n b ts (other m l) h

  -- so such a number is told of an event that is admitted, and its task is in use
  pub admitted : (st : State) (e : Event) → first_of (tests st e) ≡ some n → Admitted st e
  admitted st (Wake t) h = untold n (later 5 refl _ _ (later 2 refl _ _ h))
  admitted st (Suspend t) h = passed 2 refl _ _ h
  admitted st (Dispatch s) h = untold n (later 8 refl _ _ (later 7 refl _ _ (later 2 refl _ _ h)))
  admitted st (Preempt s) h = untold n (later 9 refl _ _ (later 2 refl _ _ h))
  admitted st (Elapse k) h = untold n (later 12 refl _ _ (later 11 refl _ _ (later 10 refl _ _ h)))
  admitted st (Recharge s) h = untold n (later 14 refl _ _ (later 13 refl _ _ (later 2 refl _ _ h)))
  admitted st (Lock t r) h =
      let h3 = later 2 refl _ _ h in
      (passed 2 refl _ _ h, passed 3 refl _ _ h3, passed 4 refl _ _ (later 3 refl _ _ h3))
  admitted st (Unlock t r) h = (passed 2 refl _ _ h, passed 3 refl _ _ (later 2 refl _ _ h))

pub admitted_here : (st : State) (e : Event) → Admitted st e → here st (number_of e) ≡ true
admitted_here st (Wake t) a = absurd a
admitted_here st (Suspend t) a = a
admitted_here st (Dispatch s) a = absurd a
admitted_here st (Preempt s) a = absurd a
admitted_here st (Elapse n) a = absurd a
admitted_here st (Recharge s) a = absurd a
admitted_here st (Lock t r) a = a.0
admitted_here st (Unlock t r) a = a.0
