-- A calculation that goes over a span alone misses nothing: the turns before and after it give nothing. Assumes nothing.
use mathlib.Core.Path.{◌≡◌, refl, sym, ap, ap₂, ◌∙◌}
use mathlib.Core.Bool.{true, false}
use mathlib.Core.Logic.{◌⊎◌, inl, inr, ⊎_elim}
use Rattle.std.specs.Prelude.{Some, None}
use Prim.Native.Nat.{ℕ, zero, suc, ◌<◌, ◌≤◌}
use native.Mathlib.Omega.{arith}
use lib.Dec.{eqb}
use borrow.Author.Tests.{eqb-true, le-ltb}
use Rattle.laws.proofs.Cases.{unheld_fails, and_left, and_right}
use Rattle.bound.specs.declared.Sections.{Sections}
use Rattle.bound.specs.Sets.{Resources}
use Rattle.bound.specs.Table.{Parent, section_at, directly_in}
use Rattle.bound.specs.Interference.{Weighed, weighed, both, gathered, is_on, weighed_on, first_greatest, best, is_in, sum_over}
use Rattle.bound.specs.Computed.{Spans, on_span, in_span, from_in, end_in, Covers, Spanned, spend}
use Rattle.bound.proofs.Gathered.{gathered_past}
use Rattle.bound.proofs.Turns.{Of, nothing_of}

same_parent : (o p : Parent) → directly_in o p ≡ true → o ≡ p
same_parent None None e = refl
same_parent None (Some p) e = cc
same_parent (Some o) None e = cc
same_parent (Some o) (Some p) e = ap Some (eqb-true o p e)

-- outside its span no section is a task's on a resource, or directly in another
module _ (s : Sections) (spans : Spans) (spanned : Spanned s spans) where
  abbrev Outside : ℕ → ℕ → Type 0
  Outside k j = (j < from_in spans k) ⊎ (end_in spans k ≤ j)

  not_covered : (k j : ℕ) → Outside k j → Covers spans k j → ⊥
  not_covered k j o c = ⊎_elim (λ (l : j < from_in spans k). omega (arith, c.0)) (λ (l : end_in spans k ≤ j). omega (arith, c.1)) o

  module _ (q x : ℕ) where
    not_on : (j : ℕ) → j < s.count → Outside (on_span x q) j → is_on s q x j ≡ false
    not_on j l o =
        unheld_fails (is_on s q x j)
        (λ y.
        let task : (section_at s j).task.0 ≡ x = eqb-true _ _ (and_left _ _ y) in
        let resource : (section_at s j).resource ≡ q = eqb-true _ _ (and_right (eqb (section_at s j).task.0 x) _ y) in
        not_covered (on_span x q) j o (rw (task, resource) at (spanned.on_covered j l)))

    module _ (weigh : ℕ → Weighed) where
      idle_best : (j : ℕ) (found : Weighed) → j < s.count → Outside (on_span x q) j → first_greatest j found (weighed_on weigh s q x j) ≡ found
      unfolding weighed_on
      idle_best j found l h =
          rw (not_on j l h, le-ltb found.value 0 (omega arith)) (ap (weighed found.value found.giver) (omega arith))

      pub best_from : (from a : ℕ) → from ≡ from_in spans (on_span x q) → Of 0 None a ≡ spend (gathered first_greatest (weighed_on weigh s q x) from) a
      unfolding gathered
      best_from from a e =
          let most = spanned.end_most (on_span x q) in
          let order = spanned.in_order (on_span x q) in
          nothing_of a
          ∙ ap (λ w. spend w a) (sym (gathered_past first_greatest (weighed_on weigh s q x) 0 from (omega arith) (λ j z l. idle_best j (gathered first_greatest (weighed_on weigh s q x) j) (omega arith) (inl (omega arith)))))

      pub best_to_lem
          : (i end : ℕ) → end ≡ end_in spans (on_span x q) → i ≤ end → end ≤ i
          → gathered first_greatest (weighed_on weigh s q x) i ≡ best weigh s q x
      unfolding best
      best_to_lem i end e l m =
          let most = spanned.end_most (on_span x q) in
          sym (gathered_past first_greatest _ i s.count (omega arith) (λ j h k. idle_best j _ (omega arith) (inr (omega arith))))

  module _ (t : ℕ) (p : Parent) where
    not_in : (c : ℕ) → c < s.count → Outside (in_span p) c → is_in s t p c ≡ false
    not_in c l o =
        unheld_fails (is_in s t p c)
        (λ y.
        let inside = same_parent (section_at s c).parent p (and_right (eqb (section_at s c).task.0 t) _ y) in
        not_covered (in_span p) c o (rw inside at (spanned.in_covered c l)))

    module _ (ordered : ℕ → Resources → Weighed) (same : Parent → Resources → Weighed) (r : Resources) where
      abbrev added : ℕ → Weighed
      added = sum_over ordered same s t p r

      idle_sum
          : (j n : ℕ) → j < s.count → Outside (in_span p) j
          → both (gathered (λ c. both) added n) (added j) ≡ gathered (λ c. both) added n
      unfolding sum_over gathered
      idle_sum j zero l h = rw (not_in j l h)
      idle_sum j (suc n) l h = rw (not_in j l h) (ap₂ (λ v w. weighed v None w) (omega arith) (omega arith))

      pub sum_from : (from a : ℕ) → from ≡ from_in spans (in_span p) → Of 0 None a ≡ spend (gathered (λ c. both) added from) a
      unfolding gathered
      sum_from from a e =
          let most = spanned.end_most (in_span p) in
          let order = spanned.in_order (in_span p) in
          nothing_of a ∙ ap (λ w. spend w a) (sym (gathered_past (λ c. both) added 0 from (omega arith) (λ j z l. idle_sum j j (omega arith) (inl (omega arith)))))

      pub sum_to
          : (i end : ℕ) → end ≡ end_in spans (in_span p) → i ≤ end → end ≤ i
          → gathered (λ c. both) added i ≡ gathered (λ c. both) added s.count
      sum_to i end e l m =
          let most = spanned.end_most (in_span p) in
          sym (gathered_past (λ c. both) added i s.count (omega arith) (λ j h k. idle_sum j j (omega arith) (inr (omega arith))))
