-- What the tests 40 to 43 say of a table that passes them. Assumes nothing.
use mathlib.Core.Path.{◌≡◌, refl, sym}
use mathlib.Core.List.{List, [], ◌∷◌}
use mathlib.Core.Logic.{⊎_elim}
use mathlib.Core.Bool.{Bool, true, false, not}
use mathlib.Core.Option.{Option, none, some}
use Prim.Native.Nat.{ℕ, zero, suc, ◌<◌, ◌≤◌}
use native.Mathlib.Omega.{arith}
use lib.Dec.{ltb}
use borrow.Author.Tests.{ltb-true, leb-true, eqb-true}
use Rattle.laws.specs.Tests.{first_of, accepted, ◌when◌or◌, ◌or_else◌}
use Rattle.laws.specs.Loops.{fold_to, all_to, sum_to}
use Rattle.laws.proofs.Cases.{and_left, and_right, none_some}
use Rattle.laws.proofs.Reflect.{reflects_self, reflects_le, reflects_lt, reflects_and}
use Rattle.laws.proofs.Fold.{last_or_below}
use Rattle.laws.proofs.All.{all_at}
use Rattle.std.specs.Prelude.{Some, None}
use Rattle.bound.specs.declared.Sections.{Sections}
use Rattle.bound.specs.Table.{Parent, section_at, counts_fit, parent_fits, section_fits, above, child_length, children_fit, section_tests, section_refusal, table_refusal}

pub record Accepted (s : Sections) : Type 0 where
  pub tasks_least : 1 ≤ s.tasks
  pub tasks_most : s.tasks ≤ 6
  pub count_most : s.count ≤ 12
  pub task_there : (i : ℕ) → i < s.count → (section_at s i).task.0 < s.tasks
  pub resource_most : (i : ℕ) → i < s.count → (section_at s i).resource ≤ 15
  pub length_least : (i : ℕ) → i < s.count → 1 ≤ (section_at s i).length
  pub length_most : (i : ℕ) → i < s.count → (section_at s i).length ≤ 1000000
  pub parent_earlier : (i p : ℕ) → i < s.count → (section_at s i).parent ≡ Some p → p < i
  pub parent_task : (i p : ℕ) → i < s.count → (section_at s i).parent ≡ Some p → (section_at s p).task.0 ≡ (section_at s i).task.0
  pub parent_below : (i p : ℕ) → i < s.count → (section_at s i).parent ≡ Some p → (section_at s p).resource < (section_at s i).resource
  pub children_most : (i : ℕ) → i < s.count → sum_to s.count (child_length s i) ≤ (section_at s i).length

-- neither of two refusals
pub earlier_none : (a b : Option ℕ) → (a or_else b) ≡ none → a ≡ none
earlier_none none b e = refl
earlier_none (some n) b e = e

pub later_none : (a b : Option ℕ) → (a or_else b) ≡ none → b ≡ none
later_none none b e = e
later_none (some n) b e = none_some (sym e)

-- nothing refused: the first test and those after it fail
pub passed : (n : ℕ) (b : Bool) (ts : List (ℕ × Bool)) → first_of ((n, not b) ∷ ts) ≡ none → (b ≡ true) × (first_of ts ≡ none)
unfolding first_of
passed n true ts e = (refl, e)
passed n false ts e = none_some (sym e)

module _ (s : Sections) where
  abbrev after_41 : ℕ → List (ℕ × Bool)
  after_41 i = 42 when not (above s (section_at s i).resource (section_at s i).parent) or accepted

  -- 41 and 42, of each section
  section_passed : (n i : ℕ) → i < n → fold_to n (section_refusal s) none ≡ none → first_of (section_tests s i) ≡ none
  unfolding fold_to section_refusal
  section_passed zero i l e = absurd (omega arith)
  section_passed (suc n) i l e =
      ⊎_elim
      (λ (q : i ≡ n). rw q (later_none (fold_to n (section_refusal s) none) (first_of (section_tests s n)) e))
      (λ (m : i < n). section_passed n i m (earlier_none (fold_to n (section_refusal s) none) (first_of (section_tests s n)) e))
      (last_or_below i n l)

  parent_fits_lem : (i p : ℕ) (o : Parent) → parent_fits s i o ≡ true → o ≡ Some p → (p < i) × ((section_at s p).task.0 ≡ (section_at s i).task.0)
  parent_fits_lem i p None h e = absurd (let z : ◌≡◌ {A = ℕ} 0 1 = cc in omega arith)
  parent_fits_lem i p (Some k) h e =
      let q : k ≡ p = cc in
      rw (← q) (ltb-true _ _ (and_left _ _ h), eqb-true _ _ (and_right (ltb k i) _ h))

  is_above : (r p : ℕ) (o : Parent) → above s r o ≡ true → o ≡ Some p → (section_at s p).resource < r
  is_above r p None h e = absurd (let z : ◌≡◌ {A = ℕ} 0 1 = cc in omega arith)
  is_above r p (Some k) h e = let q : k ≡ p = cc in rw (← q) (ltb-true _ _ h)

  -- 41 as facts
  fits
      : (i : ℕ) → section_fits s i ≡ true
      → (((((section_at s i).task.0 < s.tasks) × ((section_at s i).resource ≤ 15)) × (1 ≤ (section_at s i).length)) × ((section_at s i).length ≤ 1000000))
      × (parent_fits s i (section_at s i).parent ≡ true)
  unfolding section_fits
  fits i =
      (reflects_and
      (reflects_and (reflects_and (reflects_and (reflects_lt _ _) (reflects_le _ _)) (reflects_le _ _)) (reflects_le _ _))
      (reflects_self _)).holds

  counts : counts_fit s ≡ true → ((1 ≤ s.tasks) × (s.tasks ≤ 6)) × (s.count ≤ 12)
  counts = (reflects_and (reflects_and (reflects_le _ _) (reflects_le _ _)) (reflects_le _ _)).holds

  pub accepted_table : table_refusal s ≡ none → Accepted s
  unfolding table_refusal children_fit
  accepted_table e =
      let size = counts (passed 40 (counts_fit s) [] (earlier_none _ _ e)).0 in
      let rest = later_none (first_of ((40, not (counts_fit s)) ∷ [])) _ e in
      let free : (i : ℕ) → i < s.count → (section_fits s i ≡ true) × (first_of (after_41 i) ≡ none) =
      λ i l. passed 41 (section_fits s i) (after_41 i) (section_passed s.count i l (earlier_none _ _ rest)) in
      let children : all_to s.count (children_fit s) ≡ true =
      (passed 43 _ [] (later_none (fold_to s.count (section_refusal s) none) _ rest)).0 in
      record {
        tasks_least = size.0.0;
        tasks_most = size.0.1;
        count_most = size.1;
        task_there = λ i l. (fits i (free i l).0).0.0.0.0;
        resource_most = λ i l. (fits i (free i l).0).0.0.0.1;
        length_least = λ i l. (fits i (free i l).0).0.0.1;
        length_most = λ i l. (fits i (free i l).0).0.1;
        parent_earlier = λ i p l q. (parent_fits_lem i p _ (fits i (free i l).0).1 q).0;
        parent_task = λ i p l q. (parent_fits_lem i p _ (fits i (free i l).0).1 q).1;
        parent_below = λ i p l. is_above _ p _ (passed 42 _ [] (free i l).1).0;
        children_most = λ i l. leb-true _ _ (all_at (children_fit s) s.count i l children);
      }
