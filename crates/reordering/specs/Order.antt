-- What it is to reorder a list of events (rule 11.3): each group's order is kept, and nothing moves across a passage of time. Assumes nothing.
use Rattle.std.specs.Prelude.{◌≡◌, Bool, true, List, [], ◌∷◌, ℕ, eqb, if◌then◌else◌}

-- rule 11.2: what an event is to the order, a passage of time, or something that one group does
pub data Kind : Type 0 where
  time : Kind
  group : ℕ → Kind

-- whether the group g sees an event of this kind: each group sees time pass, and sees what it does itself
abbrev pub sees : ℕ → Kind → Bool
sees g time = true
sees g (group h) = eqb h g

-- two kinds that may change places: of two groups
abbrev pub Apart : Kind → Kind → Type 0
Apart time k = ⊥
Apart (group g) time = ⊥
Apart (group g) (group h) = g ≡ h → ⊥

module _ {E : Type 0} (kind : E → Kind) where
  -- what the group g sees of a list: its own events and the passages of time, in the list's order
  unfoldable pub view : ℕ → List E → List E
  view g [] = []
  view g (e ∷ es) = if sees g (kind e) then e ∷ view g es else view g es

  -- ys is xs reordered: no group sees a difference
  unfoldable pub Reordered : List E → List E → Type 0
  Reordered xs ys = (g : ℕ) → view g xs ≡ view g ys
