-- Which test tells a refusal, and what passed where none does. Assumes nothing.
use Rattle.std.specs.List.{sum_by}
use Rattle.std.proofs.lemmas.List.Sums.{sum_by_more}
use mathlib.Core.Path.{◌≡◌, refl, sym, ap, ◌∙◌}
use mathlib.Core.Bool.{Bool, true, false, not, and-false}
use mathlib.Core.List.{List}
use mathlib.Core.Option.{none, some}
use mathlib.Core.Logic.{◌⊎◌, ⊎_elim}
use Prim.Native.Nat.{ℕ, zero, suc, ◌+◌, ◌<◌, ◌≤◌}
use native.Mathlib.Nat.{eq-or-lt_of_le}
use native.Mathlib.Numerals.{add-one}
use native.Mathlib.Omega.{arith}
use lib.Dec.{leb}
use lib.ListN.{length, get_or, take}
use borrow.Author.Tests.{le-leb, lt-leb, le-ltb, lt-ltb}
use Rattle.laws.specs.Tests.{first_of}
use Rattle.laws.specs.Loops.{all_to, sum_to, fold_to}
use Rattle.model.specs.Verdicts.{verdict, refused_if}
use Rattle.bound.specs.declared.Sections.{Sections}
use Rattle.bound.specs.Table.{section_at, counts_fit, child_length, children_fit, section_tests, section_refusal, table_refusal, refusal}

-- the sections before i pass
module _ (s : Sections) (i : ℕ) (before : fold_to i (section_refusal s) none ≡ none) where
  here : fold_to (suc i) (section_refusal s) none ≡ first_of (section_tests s i)
  unfolding fold_to section_refusal
  here = rw before

  -- and so does section i
  pub section_passes : first_of (section_tests s i) ≡ none → fold_to (i + 1) (section_refusal s) none ≡ none
  section_passes e = rw add-one (here ∙ e)

  -- or it is refused, and so is any table with it
  pub section_told : (n count : ℕ) → i < count → first_of (section_tests s i) ≡ some n → fold_to count (section_refusal s) none ≡ some n
  unfolding fold_to section_refusal
  section_told n zero l e = absurd (omega arith)
  section_told n (suc count) l e =
      ⊎_elim
      (λ (q : suc i ≡ suc count). let same : i ≡ count = omega arith in rw (← same) (here ∙ e))
      (λ (m : suc i < suc count). rw (section_told n count (omega arith) e))
      (eq-or-lt_of_le l)

module _ (s : Sections) where
  pub counts_told : counts_fit s ≡ false → table_refusal s ≡ some 40
  unfolding table_refusal first_of
  counts_told e = rw e

  module _ (fit : counts_fit s ≡ true) where
    pub sections_told : (n : ℕ) → fold_to s.count (section_refusal s) none ≡ some n → table_refusal s ≡ some n
    unfolding table_refusal first_of
    sections_told n e = rw (fit, e)

    pub children_told
        : (b : Bool) → fold_to s.count (section_refusal s) none ≡ none → b ≡ all_to s.count (children_fit s)
        → refused_if 43 (not b) ≡ verdict (table_refusal s)
    unfolding table_refusal first_of
    children_told true passed all = rw (fit, passed, ← all)
    children_told false passed all = rw (fit, passed, ← all)

-- the questions of a table that passes
module _ (s : Sections) (t allowance : ℕ) where
  pub table_told : (n : ℕ) → table_refusal s ≡ some n → refusal s t allowance ≡ some n
  unfolding refusal
  table_told n e = rw e

  module _ (passed : table_refusal s ≡ none) where
    pub task_told : s.tasks ≤ t → refusal s t allowance ≡ some 44
    unfolding refusal first_of
    task_told l = rw (passed, le-ltb t s.tasks l)

    module _ (there : t < s.tasks) where
      pub allowance_told : (allowance ≡ 0) ⊎ ((allowance ≡ 0 → ⊥) × (1000000 < allowance)) → refusal s t allowance ≡ some 45
      unfolding refusal first_of
      allowance_told =
          ⊎_elim
          (λ (z : allowance ≡ 0). rw (passed, lt-ltb t s.tasks there, z))
          (λ (m : (allowance ≡ 0 → ⊥) × (1000000 < allowance)). rw (passed, lt-ltb t s.tasks there, lt-leb allowance 1000000 m.1, and-false))

      pub all_passed : (allowance ≡ 0 → ⊥) → allowance ≤ 1000000 → refusal s t allowance ≡ none
      unfolding refusal first_of
      all_passed z m = rw (passed, lt-ltb t s.tasks there, le-leb 1 allowance (omega (arith, z)), le-leb allowance 1000000 m)

pub children_are : (s : Sections) (i n : ℕ) → n ≡ sum_to s.count (child_length s i) → leb n (section_at s i).length ≡ children_fit s i
unfolding children_fit
children_are s i n e = rw e

-- what the library's sum over the first n places of a list comes to
pub sum_taken : {A : Type 0} (h : A → ℕ) (d : A) (xs : List A) (n : ℕ) → n ≤ length xs → sum_by h (take n xs) ≡ sum_to n (λ c. h (get_or xs c d))
unfolding sum_to
sum_taken h d xs zero l = refl
sum_taken h d xs (suc n) l =
    ap (λ k. sum_by h (take k xs)) (sym (add-one n)) ∙ sum_by_more h xs n d (omega arith)
    ∙ ap (λ a. a + h (get_or xs n d)) (sum_taken h d xs n (omega arith))
