-- A reordering (rule 11.3) told by places: which place of the one list goes to which place of the other. Assumes nothing.
use Rattle.std.specs.Prelude.{◌≡◌, List, ℕ, ◌<◌}
use Rattle.std.proofs.Math.Option.{some}
use Rattle.std.proofs.Math.ListN.{get_elem? as at}
use Rattle.reordering.specs.Order.{Kind, time, group}

-- two kinds whose order is kept: one is time, or both are of one group
abbrev pub Bound : Kind → Kind → Type 0
Bound time k = Unit {0}
Bound (group g) time = Unit {0}
Bound (group g) (group h) = g ≡ h

-- ys is xs reordered, the event at place i going to place `to i`: the places of the two lists correspond one to one, each event with itself,
-- and two events whose order is to be kept stand in ys in their order of xs
pub record Matching {E : Type 0} (kind : E → Kind) (xs ys : List E) : Type 0 where
  pub to : ℕ → ℕ
  pub from : ℕ → ℕ
  pub there : (i : ℕ) (e : E) → at xs i ≡ some e → at ys (to i) ≡ some e
  pub back : (j : ℕ) (e : E) → at ys j ≡ some e → at xs (from j) ≡ some e
  pub from_to : (i : ℕ) (e : E) → at xs i ≡ some e → from (to i) ≡ i
  pub to_from : (j : ℕ) (e : E) → at ys j ≡ some e → to (from j) ≡ j
  pub order : (i j : ℕ) (a b : E) → i < j → at xs i ≡ some a → at xs j ≡ some b → Bound (kind a) (kind b) → to i < to j
