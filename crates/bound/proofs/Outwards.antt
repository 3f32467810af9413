-- Outer resources, as rule 12.3 says them: those of the parent, and the parent's. Assumes an accepted table.
use mathlib.Core.Path.{◌≡◌, refl, ap}
use Prim.Native.Nat.{ℕ, zero, suc, ◌<◌, ◌≤◌}
use native.Mathlib.Omega.{arith}
use Rattle.std.specs.Prelude.{Some, None}
use Rattle.bound.specs.declared.Sections.{Sections}
use Rattle.bound.specs.Sets.{no_resource, with}
use Rattle.bound.specs.Table.{Parent, section_at, around, outer}
use Rattle.bound.proofs.Accepted.{Accepted}

-- how many sections may stand around one with this parent
abbrev reach : Parent → ℕ
reach None = 0
reach (Some p) = suc p

module _ (s : Sections) where
  -- the parent of an earlier section reaches less far out
  reach_less : Accepted s → (p : ℕ) (o : Parent) → p < s.count → (section_at s p).parent ≡ o → reach o ≤ p
  reach_less good p None l e = omega arith
  reach_less good p (Some k) l e = good.parent_earlier p k l e

  -- one more section outwards than there are
  around_step : Accepted s → (n : ℕ) (o : Parent) → reach o ≤ n → reach o ≤ s.count → around n s o ≡ around (suc n) s o
  unfolding around
  around_step good zero None h l = refl
  around_step good zero (Some p) h l = absurd (omega arith)
  around_step good (suc n) None h l = refl
  around_step good (suc n) (Some p) h l =
      let less = reach_less good p (section_at s p).parent l refl in
      ap (λ r. with r (section_at s p).resource) (around_step good n (section_at s p).parent (omega arith) (omega arith))

  pub outer_none : (i : ℕ) → (section_at s i).parent ≡ None → outer s i ≡ no_resource
  unfolding outer around
  outer_none i e = rw e

  pub outer_is : Accepted s → (i p : ℕ) → i < s.count → (section_at s i).parent ≡ Some p → outer s i ≡ with (outer s p) (section_at s p).resource
  unfolding outer around
  outer_is good i p l e =
      let earlier = good.parent_earlier i p l e in
      let less = reach_less good p (section_at s p).parent (omega arith) refl in
      rw e (ap (λ r. with r (section_at s p).resource) (around_step good 11 (section_at s p).parent (omega (arith, good.count_most)) (omega arith)))
