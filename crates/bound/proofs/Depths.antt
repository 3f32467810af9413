-- Laws of `sums`: it depends on `depth` no further than there are sections left to nest. Assumes an accepted table.
use mathlib.Core.Path.{◌≡◌, refl, sym}
use mathlib.Core.Bool.{true}
use Prim.Native.Nat.{ℕ, zero, suc, ◌-◌, ◌<◌, ◌≤◌}
use native.Mathlib.Omega.{arith}
use lib.Dec.{eqb}
use borrow.Author.Tests.{eqb-true}
use Rattle.laws.proofs.Cases.{split, and_right}
use Rattle.std.specs.Prelude.{Some, None}
use Rattle.bound.specs.declared.Sections.{Sections}
use Rattle.bound.specs.Sets.{Resources, with}
use Rattle.bound.specs.Table.{Parent, section_at, directly_in}
use Rattle.bound.specs.Interference.{Weighed, nothing, is_in, sum_over, sums}
use Rattle.bound.proofs.Accepted.{Accepted}
use Rattle.bound.proofs.Gathered.{gathered_same, gathered_none, enough}

-- how many sections may stand in p, one in another: those after it
abbrev pub nesting : Sections → Parent → ℕ
nesting s None = s.count
nesting s (Some p) = s.count - suc p

-- a child leaves less to nest than its parent
child_less
    : (s : Sections) → Accepted s → (c : ℕ) (p o : Parent)
    → c < s.count → (section_at s c).parent ≡ o → directly_in o p ≡ true → nesting s (Some c) < nesting s p
child_less s good c None o l e h = omega arith
child_less s good c (Some p) None l e h = absurd (let z : ◌≡◌ {A = ℕ} 0 1 = cc in omega arith)
child_less s good c (Some p) (Some i) l e h = omega (arith, eqb-true i p h, good.parent_earlier c i l e)

module _ (s : Sections) (t : ℕ) where
  -- sections of the sum that agree where c stands in p
  pub over_same
      : (f g : ℕ → Resources → Weighed) (h k : Parent → Resources → Weighed) (p : Parent) (r : Resources) (c : ℕ)
      → ((q : ℕ) (wider : Resources) → f q wider ≡ g q wider)
      → (directly_in (section_at s c).parent p ≡ true → (wider : Resources) → h (Some c) wider ≡ k (Some c) wider)
      → sum_over f h s t p r c ≡ sum_over g k s t p r c
  unfolding sum_over
  over_same f g h k p r c same inner =
      split
      (is_in s t p c)
      (λ e.
      let wider = with r (section_at s c).resource in
      rw (same (section_at s c).resource wider, inner (and_right (eqb (section_at s c).task.0 t) _ e) wider))
      (λ e. rw e)

  -- no ordering value is anything
  pub sums_none
      : (ordered : ℕ → Resources → Weighed) (depth : ℕ) (p : Parent) (r : Resources)
      → ((q : ℕ) (wider : Resources) → ordered q wider ≡ nothing) → sums depth ordered s t p r ≡ nothing
  unfolding sums sum_over
  sums_none ordered zero p r e = refl
  sums_none ordered (suc depth) p r e =
      gathered_none _ _ s.count (λ c. refl)
      (λ c l. split (is_in s t p c) (λ y. rw (y, e _ _, sums_none ordered depth (Some c) _ e)) (λ n. rw n))

  module _ (good : Accepted s) (ordered : ℕ → Resources → Weighed) where
    -- nothing is left to nest
    childless
        : (same : Parent → Resources → Weighed) (p : Parent) (r : Resources) (c : ℕ)
        → c < s.count → nesting s p ≡ 0 → sum_over ordered same s t p r c ≡ nothing
    unfolding sum_over
    childless same p r c l h =
        split
        (is_in s t p c)
        (λ e. absurd (omega (arith, child_less s good c p _ l refl (and_right (eqb (section_at s c).task.0 t) _ e))))
        (λ e. rw e)

    depth_step : (depth : ℕ) (p : Parent) (r : Resources) → nesting s p ≤ depth → sums depth ordered s t p r ≡ sums (suc depth) ordered s t p r
    unfolding sums
    depth_step zero p r h = sym (gathered_none _ _ s.count (λ c. refl) (λ c l. childless (sums 0 ordered s t) p r c l (omega arith)))
    depth_step (suc depth) p r h =
        gathered_same _ _ _ s.count
        (λ c l.
        over_same ordered ordered (sums depth ordered s t) (sums (suc depth) ordered s t) p r c
        (λ q wider. refl)
        (λ e wider. depth_step depth (Some c) wider (omega (arith, child_less s good c p _ l refl e))))

    -- `depth` at least the sections left to nest
    pub depth_more : (depth : ℕ) (p : Parent) (r : Resources) → nesting s p ≤ depth → sums depth ordered s t p r ≡ sums (nesting s p) ordered s t p r
    depth_more depth p r = enough (λ k. sums k ordered s t p r) (nesting s p) (λ k. depth_step k p r) depth
