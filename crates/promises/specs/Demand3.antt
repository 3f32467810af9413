-- Demand 3, for all lists: events of different groups may change places between passages of time (rule 11.3). Assumes nothing.
use Rattle.std.specs.Prelude.{◌≡◌, true, List, ℕ}
use Rattle.std.proofs.Math.Option.{some}
use Rattle.std.proofs.Math.ListN.{get_elem? as at}
use Rattle.reordering.specs.Place.{Matching}
use Rattle.reordering.specs.Run.{after, log, Never}
use Rattle.model.specs.declared.State.{State}
use Rattle.model.specs.declared.Table.{Table}
use Rattle.model.specs.declared.Event.{Event}
use Rattle.model.specs.declared.Answer.{Answer}
use Rattle.model.specs.State.{TaskNumber, here}
use Rattle.model.specs.Fresh.{fresh_state}
use Rattle.model.specs.Sound.{sound}
use Rattle.model.specs.Shape.{Shaped}
use Rattle.model.specs.Groups.{Linked, group_of, kind_of}
use Rattle.model.specs.Step.{move}
use Rattle.theory.specs.Runs.{Accepted, refused_by}

-- rule 11.1: two tasks are of one group exactly when shared declarations join them, directly or through others
abbrev pub Groups : Type 0
Groups =
    (st : State) (t u : TaskNumber) → here st t ≡ true → here st u ≡ true →
    (Linked st t u → group_of st t ≡ group_of st u) × (group_of st t ≡ group_of st u → Linked st t u)

-- Rule 11.3 from a state, for two lists: `Matching` says that ys is xs reordered. Each event goes from its place to a place of its own, and no two events change
-- their order of which one is a passage of time, or both are of one group. No dispatch is refused for want of a processor (8) in either list. Then each
-- event gets its one answer, and the last states are equal in every field.
abbrev pub SameInBothOrders : State → List Event → List Event → Type 0
SameInBothOrders st xs ys =
    (m : Matching (kind_of st) xs ys) →
    Never (refused_by 8) (log move st xs) →
    Never (refused_by 8) (log move st ys) →
    ((i : ℕ) (r : Event × Answer) → at (log move st xs) i ≡ some r → at (log move st ys) (m.to i) ≡ some r) ×
    (after move st xs ≡ after move st ys)

-- from a fresh table, as the demand says it,
abbrev pub OrderFree : Type 0
OrderFree = (tb : Table) → Accepted tb → (xs ys : List Event) → SameInBothOrders (fresh_state tb) xs ys

-- and from any sound state
abbrev pub OrderFreeFrom : Type 0
OrderFreeFrom = (st : State) → Shaped st → sound st ≡ true → (xs ys : List Event) → SameInBothOrders st xs ys
