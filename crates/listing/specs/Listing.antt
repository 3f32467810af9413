-- The whole text that `replay` prints for a file: rule 14. Assumes nothing.
use Rattle.std.specs.Prelude.{List, [], ◌∷◌, ◌++◌, ℕ, ◌+◌, ltb, length, if◌then◌else◌, Ok, Err, Some, None}
use Rattle.std.proofs.Math.Option.{Option, none, some}
use Rattle.laws.specs.Loops.{join_to}
use Rattle.model.specs.declared.Server.{Server}
use Rattle.model.specs.declared.State.{State}
use Rattle.model.specs.declared.Event.{Event}
use Rattle.model.specs.declared.Answer.{Answer}
use Rattle.model.specs.State.{places, server_at, task_at, here}
use Rattle.model.specs.Fresh.{unusable, fresh_state}
use Rattle.model.specs.Step.{stepped}
use Rattle.model.specs.Said.{said}
use Rattle.trace.specs.declared.Record.{Record}
use Rattle.trace.specs.declared.Record.TheVariants.{Counts, Reservation, Happening}
use Rattle.trace.specs.Reading.{Read, items}
use Rattle.trace.specs.Order.{Stage, opening, entering, complete, order_refusal, advanced, file_limit}
use Rattle.lent_bytes.specs.Text.{bytes, decimal}
use Rattle.listing.specs.Text.{field, following, newline, spelled, phase_word}

-- an event's line: rule 14.1
abbrev pub answer_text : Answer → List ℕ
answer_text a = spelled (said a).0 ++ field (said a).1 ++ following (said a).2

unfoldable pub event_line : ℕ → Answer → List ℕ
event_line n a = decimal n ++ bytes " " ++ answer_text a ++ newline

-- the line at which a listing stops: rule 14.3
unfoldable pub stop_line : ℕ → ℕ → List ℕ
stop_line offset n = bytes "stop" ++ field offset ++ field n ++ newline

-- a server's line and a task's: rule 14.2
abbrev pub server_text : ℕ → Server → List ℕ
server_text s server =
    bytes "server" ++ field s ++ bytes " " ++ phase_word server.phase ++ field server.budget ++ field server.deadline ++ field server.own
    ++ field server.lent ++ field server.spin ++ newline

abbrev pub task_text : ℕ → ℕ → List ℕ
task_text t executed = bytes "task" ++ field t ++ field executed ++ newline

-- the lines of a server and of a task in use, and of one that is not: none
unfoldable pub server_line : State → ℕ → List ℕ
server_line st s = if here st s then server_text s (server_at st s) else []

unfoldable pub task_line : State → ℕ → List ℕ
task_line st t = if here st t then task_text t (task_at st t).executed else []

-- what follows the last event: rule 14.2
unfoldable pub end_lines : State → List ℕ
end_lines st = bytes "end" ++ field st.clock ++ newline ++ join_to places (server_line st) ++ join_to places (task_line st)

-- where a replay stands: how much of the table is read, the state once all of it is, and the number of events so far
pub record Progress : Type 0 where
  pub stage : Stage
  pub state : State
  pub events : ℕ

abbrev pub beginning : Progress
beginning = record { stage = opening; state = unusable; events = 0 }

-- the table complete: the fresh state
abbrev pub started : Stage → Progress
started opening = beginning
started (entering tb k) = record { stage = entering tb k; state = unusable; events = 0 }
started (complete tb) = record { stage = complete tb; state = fresh_state tb; events = 0 }

abbrev pub continued : Progress → Event → Progress
continued p e = record { stage = p.stage; state = (stepped p.state e).state; events = p.events + 1 }

-- at the file's end: a table that is not complete stops there (rule 14.4)
abbrev pub end_text : Stage → State → ℕ → List ℕ
end_text opening st at = stop_line at 32
end_text (entering tb k) st at = stop_line at 32
end_text (complete tb) st at = end_lines st

-- a record, with the refusal that it meets where it stands, at which the listing stops (rule 14.3); `rest` is the text from there on
abbrev pub record_text : (Progress → List ℕ) → Progress → ℕ → Option ℕ → Record → List ℕ
record_text rest p at (some n) r = stop_line at n
record_text rest p at none (Counts a b c) = rest (started (advanced p.stage (Counts a b c)))
record_text rest p at none (Reservation e) = rest (started (advanced p.stage (Reservation e)))
record_text rest p at none (Happening e) = event_line (p.events + 1) (stepped p.state e).answer ++ rest (continued p e)

-- a reading: each is tested in its turn, so that the first fault of the file is the one told, after the lines of what came before it (rule 14.3)
abbrev pub read_text : (Progress → List ℕ) → Progress → ℕ → Read → List ℕ
read_text rest p at (Ok (Some found)) = record_text rest p at (order_refusal p.stage found.0) found.0
read_text rest p at (Ok None) = end_text p.stage p.state at
read_text rest p at (Err n) = stop_line at n

unfoldable pub items_text : List (ℕ × Read) → Progress → List ℕ
items_text [] p = []
items_text (i ∷ is) p = read_text (items_text is) p i.0 i.1

-- a file that is too long is not read: rules 13.7 and 14.4
unfoldable pub listing : List ℕ → List ℕ
listing file = if ltb file_limit (length file) then stop_line 0 33 else items_text (items file) beginning
