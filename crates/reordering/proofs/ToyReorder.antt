-- Of the small machine, from fresh: where neither order is refused 8, each event gets its answer in both, and the last states are equal.
-- Assumes nothing.
use mathlib.Core.Path.{◌≡◌, refl, ap}
use mathlib.Core.Bool.{false}
use mathlib.Core.List.{List}
use mathlib.Core.Option.{some}
use Prim.Native.Nat.{ℕ}
use lib.ListN.{get_elem? as at}
use borrow.Author.Tests.{ne_eqb}
use Rattle.reordering.specs.Order.{Reordered}
use Rattle.reordering.specs.Place.{Matching}
use Rattle.reordering.specs.Run.{after, log, entry, Never}
use Rattle.reordering.proofs.Each.{each_so}
use Rattle.reordering.proofs.Reorder.{reorder}
use Rattle.reordering.proofs.Answer.{reorder_places}
use Rattle.reordering.proofs.Toy.{Config, State, Event, Answer, done, ran, refusal, Unrefused, for_processors_lem, kind, step, fresh}
use Rattle.reordering.proofs.ToyLaws.{laws, fresh_good}
use Rattle.reordering.proofs.ToySeated.{never_one}

-- an answer that is neither of the two refusals
neither : (a : Answer) → (a ≡ refusal 1 → ⊥) → (a ≡ refusal 8 → ⊥) → for_processors_lem a ≡ false
neither done x y = refl
neither (ran k) x y = refl
neither (refusal r) x y = rw (ne_eqb r 1 (λ q. x (ap refusal q)), ne_eqb r 8 (λ q. y (ap refusal q)))

module _ (c : Config) where
  abbrev logged : List Event → List (Event × Answer)
  logged = log (step c) (fresh c)

  abbrev last : List Event → State
  last = after (step c) (fresh c)

  -- 1 never comes, so that it is enough that 8 does not
  unrefused : (xs : List Event) → Unrefused 8 (logged xs) → Never for_processors_lem (logged xs)
  unrefused xs h = each_so (logged xs) (λ e. neither) (never_one c xs) h

  pub toy_reorder
      : (xs ys : List Event)
      → Reordered (kind c) xs ys
      → Unrefused 8 (logged xs)
      → Unrefused 8 (logged ys)
      → Reordered (entry (kind c)) (logged xs) (logged ys) × (last xs ≡ last ys)
  toy_reorder xs ys r m n = reorder (laws c) (fresh c) (fresh_good c) xs ys r (unrefused xs m) (unrefused ys n)

  -- the same by places: what stands at place i of the one log stands at place `m.to i` of the other
  pub toy_places
      : (xs ys : List Event) (m : Matching (kind c) xs ys)
      → Unrefused 8 (logged xs)
      → Unrefused 8 (logged ys)
      → ((i : ℕ) (r : Event × Answer) → at (logged xs) i ≡ some r → at (logged ys) (m.to i) ≡ some r) × (last xs ≡ last ys)
  toy_places xs ys m h k = reorder_places (laws c) (fresh c) (fresh_good c) xs ys m (unrefused xs h) (unrefused ys k)
