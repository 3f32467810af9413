-- A run of a machine over a list of events: what it answered, and where it ended. Assumes nothing.
use Rattle.std.specs.Prelude.{◌≡◌, Bool, false, List, [], ◌∷◌, map}
use Rattle.reordering.specs.Order.{Kind}

module _ {State Event Answer : Type 0} (step : State → Event → Answer × State) where
  -- the state after the events
  unfoldable pub after : State → List Event → State
  after s [] = s
  after s (e ∷ es) = after (step s e).1 es

  -- each event with the answer that it got, in order
  unfoldable pub log : State → List Event → List (Event × Answer)
  log s [] = []
  log s (e ∷ es) = (e, (step s e).0) ∷ log (step s e).1 es

module _ {Event Answer : Type 0} where
  -- the kind of a log's entry is its event's
  abbrev pub entry : (Event → Kind) → Event × Answer → Kind
  entry kind p = kind p.0

  -- every entry's answer is fine for its event
  unfoldable pub Each : (Event → Answer → Type 0) → List (Event × Answer) → Type 0
  Each Fine [] = Unit {0}
  Each Fine (p ∷ ps) = Fine p.0 p.1 × Each Fine ps

  -- no entry's answer is one of which the test is true
  abbrev pub Never : (Answer → Bool) → List (Event × Answer) → Type 0
  Never test = Each (λ e a. test a ≡ false)

  -- a log with no more of each answer than is told
  abbrev pub told_log : {Told : Type 0} → (Event → Answer → Told) → List (Event × Answer) → List (Event × Told)
  told_log told = map (λ p. (p.0, told p.0 p.1))
