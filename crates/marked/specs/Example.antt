-- What an example says. Assumes nothing.
use Rattle.std.specs.Prelude.{◌≡◌, Bool, true, List, [], ◌∷◌, map, ℕ, ◌+◌, take}
use Prim.Native.String.{String}
use Rattle.reordering.specs.Run.{after, log}
use Rattle.model.specs.declared.Phase.{Phase}
use Rattle.model.specs.State.{Runs}
use Rattle.model.specs.declared.Server.{Server}
use Rattle.model.specs.declared.Task.{Task}
use Rattle.model.specs.declared.State.{State}
use Rattle.model.specs.declared.Table.{Table}
use Rattle.model.specs.declared.Event.{Event}
use Rattle.model.specs.declared.Answer.{Answer}
use Rattle.model.specs.declared.Answer.TheVariants.{Ok, Refused}
use Rattle.model.specs.declared.Outcome.{Outcome}
use Rattle.model.specs.declared.Row.{Row}
use Rattle.model.specs.Sound.{sound}
use Rattle.model.specs.Fresh.{Start, fresh_state, fresh_of}
use Rattle.model.specs.Step.{stepped, move}
use Rattle.model.specs.Meter.{metered}
use Rattle.model.specs.Groups.{group_of}
use Rattle.bound.specs.declared.Sections.{Sections}
use Rattle.bound.specs.Answer.{Bounded}
use Rattle.bound.specs.Answer as bound
use Rattle.trace.specs.Reading.{Read, read_at}
use Rattle.lent_bytes.specs.Text.{bytes}
use Rattle.listing.specs.Listing.{listing}
use Rattle.marked.specs.Clauses.{Clause, broken}

pub data Example : Type 0 where
  -- a file, and what `replay` prints of it
  prints : List ℕ → String → Example
  -- events from a fresh table: the last answer, the servers' states and where each task executes
  leads : Table → List Event → Answer → List Phase → List Runs → Example
  -- an event on a state, and its answer
  answers : State → Event → Answer → Example
  -- an event that every sound state refuses with a number
  refuses : Event → ℕ → Example
  -- the bound of a task of a table of sections, under an allowance
  bounds : Sections → ℕ → ℕ → Bounded → Example
  -- a state that is sound, and breaks no clause
  stands : State → Example
  -- a state that breaks these clauses and no other; every event is refused with 1 on it, and leaves it
  breaks : State → List Clause → Example
  -- events on a state, each with the answer that it gets
  replies : State → List (Event × Answer) → Example
  -- the same, and the whole state to which they lead (two events: what the checker has to compare grows a hundredfold with each)
  reaches : State → List (Event × Answer) → State → Example
  -- the groups of a state's tasks and of the numbers after them, from 0 on
  groups : State → List ℕ → Example
  -- what fresh makes of a table
  starts : Table → Start → Example
  -- what reading a file at a place gives
  reads : List ℕ → ℕ → Read → Example
  -- lent meter rows, the answer, and the rows afterwards
  meters : State → List Row → Answer → List Row → Example

-- the state after events from a fresh table
abbrev pub last_state : Table → List Event → State
last_state tb es = after move (fresh_state tb) es

abbrev pub last_of : Answer → List (Event × Answer) → Answer
last_of a [] = a
last_of a (p ∷ ps) = last_of p.1 ps

abbrev pub last_answer : Table → List Event → Answer
last_answer tb es = last_of (Ok 0) (log move (fresh_state tb) es)

abbrev pub phase_of : Server → Phase
phase_of s = s.phase

abbrev pub runs_of : Task → Runs
runs_of t = t.runs

abbrev pub phases : State → List Phase
phases st = take st.tasks (map phase_of st.server)

abbrev pub executors : State → List Runs
executors st = take st.tasks (map runs_of st.task)

-- what an example of this kind compares
pub record Seen : Type 0 where
  pub answer : Answer
  pub servers : List Phase
  pub tasks : List Runs

abbrev pub seen : Table → List Event → Seen
seen tb es = record { answer = last_answer tb es; servers = phases (last_state tb es); tasks = executors (last_state tb es) }

-- a step that refuses all events with 1
abbrev pub refusing1 : State → Event → Outcome
refusing1 st e = record { answer = Refused 1; state = st }

-- f 0, f 1, .., as many as the list has elements
abbrev pub numbered : (ℕ → ℕ) → ℕ → List ℕ → List ℕ
numbered f n [] = []
numbered f n (x ∷ xs) = f n ∷ numbered f (n + 1) xs

abbrev pub event_of : Event × Answer → Event
event_of p = p.0

abbrev pub Holds : Example → Type 0
Holds (prints file text) = listing file ≡ bytes text
Holds (leads tb es a ps rs) = seen tb es ≡ record { answer = a; servers = ps; tasks = rs }
Holds (answers st e a) = (stepped st e).answer ≡ a
Holds (refuses e n) = (st : State) → sound st ≡ true → stepped st e ≡ record { answer = Refused n; state = st }
Holds (bounds s t allowance b) = bound.answer s t allowance ≡ b
Holds (stands st) = ◌≡◌ {A = Bool × List Clause} (sound st, broken st) (true, [])
Holds (breaks st cs) = ◌≡◌ {A = List Clause × (Event → Outcome)} (broken st, stepped st) (cs, refusing1 st)
Holds (replies st es) = log move st (map event_of es) ≡ es
Holds (reaches st es end) = ◌≡◌ {A = List (Event × Answer) × State} (log move st (map event_of es), after move st (map event_of es)) (es, end)
Holds (groups st gs) = numbered (group_of st) 0 gs ≡ gs
Holds (starts tb o) = fresh_of tb ≡ o
Holds (reads file at r) = read_at file at ≡ r
Holds (meters st rows a new) = ◌≡◌ {A = Answer × List Row} (metered st rows) (a, new)

-- each of them holds
infixr 10 ◌and◌
pub data AllHold : List Example → Type 0 where
  nothing : AllHold []
  ◌and◌ : {x : Example} {xs : List Example} → Holds x → AllHold xs → AllHold (x ∷ xs)
