-- What a machine has to meet, for its answers and states to be the same in each order (rule 11.3), and for deletion. Assumes nothing.
use Rattle.std.specs.Prelude.{◌≡◌, Bool, true, false, ℕ}
use Rattle.reordering.specs.Order.{Kind, group, sees, Apart}

-- two events in either order: each gets one answer, and the last states are equal
pub record Commute {State Event Answer : Type 0} (free : State → Event → Answer × State) (s : State) (a b : Event) : Type 0 where
  pub first : (free (free s b).1 a).0 ≡ (free s a).0
  pub second : (free (free s a).1 b).0 ≡ (free s b).0
  pub state : (free (free s a).1 b).1 ≡ (free (free s b).1 a).1

-- For reordering. `step` is the machine; `free` the same without the tests that speak of processors; `refused` tells the answers that only
-- those tests give (refusals 1 and 8); `Good` is what `free` keeps, so it says nothing of processors.
pub record Laws
    {State Event Answer : Type 0}
    (kind : Event → Kind)
    (step free : State → Event → Answer × State)
    (refused : Answer → Bool)
    (Good : State → Type 0)
    : Type 0 where
  pub keeps : (s : State) (e : Event) → Good s → Good (free s e).1
  pub unlike : (s : State) (e : Event) → Good s → refused (step s e).0 ≡ false → step s e ≡ free s e
  pub commute : (s : State) (a b : Event) → Good s → Apart (kind a) (kind b) → Commute free s a b

-- Enough for the law `commute`. `Agree g s t`: s and t agree on what the group g reads, its own part and what all share (the clock).
pub record Local
    {State Event Answer : Type 0}
    (kind : Event → Kind)
    (free : State → Event → Answer × State)
    (Good : State → Type 0)
    (Agree : ℕ → State → State → Type 0)
    : Type 0 where
  pub agree_sym : (g : ℕ) (s t : State) → Agree g s t → Agree g t s
  pub agree_trans : (g : ℕ) (s t u : State) → Agree g s t → Agree g t u → Agree g s u
  -- good states on which all groups agree are equal
  pub whole : (s t : State) → Good s → Good t → ((g : ℕ) → Agree g s t) → s ≡ t
  pub keeps : (s : State) (e : Event) → Good s → Good (free s e).1
  -- an event of g reads and writes what g agrees on
  pub reads : (g : ℕ) (s t : State) (e : Event) → kind e ≡ group g → Good s → Good t → Agree g s t → (free s e).0 ≡ (free t e).0
  pub writes : (g : ℕ) (s t : State) (e : Event) → kind e ≡ group g → Good s → Good t → Agree g s t → Agree g (free s e).1 (free t e).1
  -- and leaves the others' parts
  pub leaves : (g h : ℕ) (s : State) (e : Event) → kind e ≡ group h → (h ≡ g → ⊥) → Good s → Agree g s (free s e).1

-- For deletion. `Sim s t`: t is s with the other groups' deeds deleted, as far as the group g can tell. `told`: how much of an answer is
-- compared. `Fine`: what is supposed of each answer that g sees.
pub record Deletes
    {State Event Answer Told : Type 0}
    (kind : Event → Kind)
    (step : State → Event → Answer × State)
    (told : Event → Answer → Told)
    (Fine : Event → Answer → Type 0)
    (g : ℕ)
    (Sim : State → State → Type 0)
    : Type 0 where
  pub answer : (s t : State) (e : Event) → sees g (kind e) ≡ true → Sim s t → Fine e (step s e).0 → told e (step s e).0 ≡ told e (step t e).0
  pub both : (s t : State) (e : Event) → sees g (kind e) ≡ true → Sim s t → Fine e (step s e).0 → Sim (step s e).1 (step t e).1
  pub alone : (s t : State) (e : Event) → sees g (kind e) ≡ false → Sim s t → Sim (step s e).1 t
