-- What the answer is where nothing refuses the table, the task or the allowance, and that 46 is told for the weighings alone. Assumes nothing.
use mathlib.Core.Path.{◌≡◌, refl, ap}
use mathlib.Core.Bool.{Bool, true, false}
use mathlib.Core.List.{List, [], ◌∷◌}
use mathlib.Core.Option.{Option, none, some}
use mathlib.Core.Logic.{◌↔◌}
use Prim.Native.Nat.{ℕ, ◌<◌}
use native.Mathlib.Omega.{arith}
use lib.Dec.{ltb}
use borrow.Author.Tests.{ltb-true, lt-ltb}
use Rattle.laws.specs.Tests.{first_of, ◌or_else◌}
use Rattle.laws.proofs.Cases.{split, none_some}
use Rattle.laws.proofs.Fold.{fold_keeps}
use Rattle.std.specs.Prelude.{None, Err}
use Rattle.bound.specs.declared.Sections.{Sections}
use Rattle.bound.specs.Sets.{no_task, no_resource, with}
use Rattle.bound.specs.Table.{section_refusal, table_refusal, refusal}
use Rattle.bound.specs.Interference.{Weighed, bound}
use Rattle.bound.specs.Answer.{bounded, within, unless_refused, answer}
use Rattle.bound.proofs.Accepted.{Accepted, earlier_none, later_none, passed, accepted_table}
use Rattle.bound.proofs.Unfolded.{interference, bound_is}

module _ (s : Sections) (t allowance : ℕ) where
  pub task_there : refusal s t allowance ≡ none → t < s.tasks
  unfolding refusal
  task_there e = ltb-true _ _ (passed 44 (ltb t s.tasks) _ (later_none (table_refusal s) _ e)).0

  pub table_free : refusal s t allowance ≡ none → table_refusal s ≡ none
  unfolding refusal
  table_free e = earlier_none (table_refusal s) _ e

  pub table_accepted : refusal s t allowance ≡ none → Accepted s
  table_accepted e = accepted_table s (table_free e)

  -- accepted: the bound, from the calculation as the rules say it, within the allowance
  pub answer_is : refusal s t allowance ≡ none → answer s t allowance ≡ within allowance (interference s (with no_task t) t None no_resource)
  unfolding answer
  answer_is e = rw e (ap (within allowance) (bound_is s (table_accepted e) t (task_there e)))

-- tests of other numbers do not tell n
other_first : (n m : ℕ) (b : Bool) (ts : List (ℕ × Bool)) → (m ≡ n → ⊥) → (first_of ts ≡ some n → ⊥) → first_of ((m, b) ∷ ts) ≡ some n → ⊥
unfolding first_of
other_first n m true ts d h e = d (cc)
other_first n m false ts d h e = h e

other_later : (n : ℕ) (a b : Option ℕ) → (a ≡ some n → ⊥) → (b ≡ some n → ⊥) → (a or_else b) ≡ some n → ⊥
other_later n none b f g e = g e
other_later n (some m) b f g e = f e

none_told : (n : ℕ) → first_of [] ≡ some n → ⊥
unfolding first_of
none_told n e = none_some e

module _ (s : Sections) (t allowance : ℕ) where
  -- no test of the table, the task or the allowance tells 46
  not_46 : refusal s t allowance ≡ some 46 → ⊥
  unfolding refusal table_refusal section_refusal
  not_46 =
      other_later 46 (table_refusal s) _
      (other_later 46 _ _ (other_first 46 40 _ [] (λ e. omega arith) (none_told 46))
      (other_later 46 _ _
      (fold_keeps (λ o. o ≡ some 46 → ⊥) (section_refusal s) s.count
      (λ i l o h. other_later 46 o _ h (other_first 46 41 _ _ (λ e. omega arith) (other_first 46 42 _ [] (λ e. omega arith) (none_told 46))))
      none (λ e. none_some e))
      (other_first 46 43 _ [] (λ e. omega arith) (none_told 46))))
      (other_first 46 44 _ _ (λ e. omega arith) (other_first 46 45 _ [] (λ e. omega arith) (none_told 46)))

-- the answer is 46 where nothing is refused and the weighings exceed the allowance
told_46
    : (o : Option ℕ) (allowance : ℕ) (w : Weighed) → (o ≡ some 46 → ⊥)
    → unless_refused o (within allowance w) ≡ Err 46 → (o ≡ none) × (allowance < w.weighings)
told_46 none allowance w h e = (
  refl,
  split (ltb allowance w.weighings) (ltb-true _ _) (λ n.
      let q : bounded w.value w.weighings ≡ Err 46 = rw n at e in
      let z : ◌≡◌ {A = ℕ} 0 1 = cc in
      absurd (omega arith)),
)
told_46 (some n) allowance w h e = absurd (h (cc))

-- 46 comes where the weighings exceed the allowance, and only there
pub spent_exactly
    : (s : Sections) (t allowance : ℕ)
    → (answer s t allowance ≡ Err 46) ↔ ((refusal s t allowance ≡ none) × (allowance < (bound s t).weighings))
unfolding answer
spent_exactly s t allowance = (told_46 (refusal s t allowance) allowance (bound s t) (not_46 s t allowance), λ h. rw (h.0, lt-ltb _ _ h.1))
