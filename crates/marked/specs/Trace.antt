-- A table and events, and the bytes of their trace: how the examples are written down. Assumes nothing.
use Rattle.std.specs.Prelude.{List, [], ◌∷◌, ◌++◌, ℕ, zero, suc, ◌+◌, ◌-◌, length, replicate}
use Rattle.lent_bytes.specs.Numbers.{two, four}
use Rattle.model.specs.declared.Entry.{Entry}
use Rattle.model.specs.declared.Table.{Table}
use Rattle.model.specs.declared.Event.{Event}
use Rattle.model.specs.declared.Event.TheVariants.{Wake, Suspend, Dispatch, Preempt, Elapse, Recharge, Lock, Unlock}
use Rattle.model.specs.declared.Answer.{Answer}
use Rattle.model.specs.declared.Answer.TheVariants.{Executes, Spins, Waits, Passed}
use Rattle.model.specs.State.{places}
use Rattle.model.specs.Fresh.{no_entry}

-- a task's line: Q, P and the declared set
abbrev pub line : ℕ → ℕ → ℕ → Entry
line q p declared = record { quota = q; period = p; declared = declared }

-- processors, resources, and a line for each task
abbrev pub table_of : ℕ → ℕ → List Entry → Table
table_of p r lines = record {
  processors = p;
  tasks = length lines;
  resources = r;
  entry = lines ++ replicate (places - length lines) no_entry;
}

-- events, by bare numbers
abbrev pub wake : ℕ → Event
wake t = Wake (record { 0 = t })

abbrev pub suspend : ℕ → Event
suspend t = Suspend (record { 0 = t })

abbrev pub dispatch : ℕ → Event
dispatch s = Dispatch (record { 0 = s })

abbrev pub preempt : ℕ → Event
preempt s = Preempt (record { 0 = s })

abbrev pub recharge : ℕ → Event
recharge s = Recharge (record { 0 = s })

abbrev pub lock : ℕ → ℕ → Event
lock t r = Lock (record { 0 = t }) r

abbrev pub unlock : ℕ → ℕ → Event
unlock t r = Unlock (record { 0 = t }) r

-- answers that tell a task, by bare numbers
abbrev pub executes : ℕ → Answer
executes t = Executes (record { 0 = t })

abbrev pub spins : ℕ → Answer
spins t = Spins (record { 0 = t })

abbrev pub waits : ℕ → Answer
waits t = Waits (record { 0 = t })

abbrev pub passed : ℕ → Answer
passed t = Passed (record { 0 = t })

-- a record of a kind with its body
abbrev pub record_of : ℕ → List ℕ → List ℕ
record_of kind body = two (length body + 2) ++ two kind ++ body

abbrev pub event_bytes : Event → List ℕ
event_bytes (Wake t) = record_of 1 (two t.0)
event_bytes (Suspend t) = record_of 2 (two t.0)
event_bytes (Dispatch s) = record_of 3 (two s.0)
event_bytes (Preempt s) = record_of 4 (two s.0)
event_bytes (Elapse n) = record_of 5 (four n)
event_bytes (Recharge s) = record_of 6 (two s.0)
event_bytes (Lock t r) = record_of 7 (two t.0 ++ two r)
event_bytes (Unlock t r) = record_of 8 (two t.0 ++ two r)

abbrev pub counts_bytes : ℕ → ℕ → ℕ → List ℕ
counts_bytes p t r = record_of 16 (two p ++ two t ++ two r)

abbrev pub entry_bytes : Entry → List ℕ
entry_bytes e = record_of 17 (four e.quota ++ four e.period ++ two e.declared)

abbrev pub entries_bytes : ℕ → List Entry → List ℕ
entries_bytes zero es = []
entries_bytes (suc n) [] = []
entries_bytes (suc n) (e ∷ es) = entry_bytes e ++ entries_bytes n es

abbrev pub events_bytes : List Event → List ℕ
events_bytes [] = []
events_bytes (e ∷ es) = event_bytes e ++ events_bytes es

abbrev pub trace_of : Table → List Event → List ℕ
trace_of tb es = counts_bytes tb.processors tb.tasks tb.resources ++ entries_bytes tb.tasks tb.entry ++ events_bytes es
