-- Fresh states with refusals 19 to 21, and meter rows. Assumes nothing.
use Rattle.std.specs.Prelude.{List, [], ◌∷◌, ◌++◌, ℕ, replicate, None, Ok, Err}
use Rattle.model.specs.declared.Phase.TheVariants.{Idle, Active, Running, Recharging}
use Rattle.model.specs.declared.Mode.TheVariants.{Suspended}
use Rattle.model.specs.declared.Phase.{Phase}
use Rattle.model.specs.declared.State.{State}
use Rattle.model.specs.declared.Table.{Table}
use Rattle.model.specs.declared.Row.{Row}
use Rattle.model.specs.declared.Answer.TheVariants as answer
use Rattle.model.specs.Fresh.{fresh_state}
use Rattle.trace.specs.Order.{counted_table}
use Rattle.marked.specs.Clauses.{someProcessor, someTask}
use Rattle.marked.specs.Trace.{line, table_of}
use Rattle.marked.specs.Entries.{server, task, resource, state_of, counted}
use Rattle.marked.specs.Example.{Example, breaks, starts, meters}
use Rattle.marked.specs.Desk.{desk}

-- no processors, no tasks, no resources
abbrev pub useless : State
useless = state_of 0 0 [] [] []

abbrev pub refused : Table → ℕ → Example
refused tb n = starts tb (record { answer = Err n; state = useless })

-- a table that says two tasks, with these lines
abbrev pub two_of : Table → Table
two_of tb = record { processors = tb.processors; tasks = 2; resources = tb.resources; entry = tb.entry }

-- the greatest table
abbrev pub greatest : Table
greatest = table_of 8 16 (replicate 16 (line 1000000 1000000 65535))

-- a row that nothing writes like this
abbrev pub old : Row
old = record { phase = Recharging; budget = 99; own = 98; lent = 97; spin = 96 }

-- state, budget; ticks own, lent and spun
abbrev pub row : Phase → ℕ → ℕ → ℕ → ℕ → Row
row p b own lent spin = record { phase = p; budget = b; own = own; lent = lent; spin = spin }

abbrev pub desk_rows : List Row
desk_rows = row Running 7 3 0 0 ∷ row Running 7 0 0 3 ∷ row Active 10 0 0 0 ∷ row Idle 10 0 0 0 ∷ []

abbrev pub beginnings : List Example
beginnings =
    -- all asleep and Idle with budget Q and deadline 0; lines past the tasks are ignored, bad ones too
    starts (two_of (table_of 3 1 (line 5 20 1 ∷ line 7 30 0 ∷ line 0 9 65535 ∷ [])))
    (record {
      answer = Ok tt;
      state = state_of 3 0 (server Idle 5 0 5 20 0 0 0 ∷ server Idle 7 0 7 30 0 0 0 ∷ [])
          (task Suspended None 1 [] 0 ∷ task Suspended None 0 [] 0 ∷ []) (resource None [] ∷ []);
    })
    ∷ starts greatest (record { answer = Ok tt; state = fresh_state greatest })
    -- 19: each count, before the lines, which are all 0 here
    ∷ refused (counted_table 0 1 0) 19
    ∷ refused (counted_table 9 1 0) 19
    ∷ refused (counted_table 1 0 0) 19
    ∷ refused (counted_table 1 17 0) 19
    ∷ refused (counted_table 1 1 17) 19
    -- 20: Q 0, Q above P, P above 1,000,000; before 21
    ∷ refused (table_of 1 1 (line 0 20 1 ∷ [])) 20
    ∷ refused (table_of 1 1 (line 21 20 1 ∷ [])) 20
    ∷ refused (table_of 1 1 (line 2 1000001 1 ∷ [])) 20
    ∷ refused (table_of 1 1 (line 0 20 2 ∷ [])) 20
    -- 21: a resource that is not there
    ∷ refused (table_of 1 1 (line 2 20 2 ∷ [])) 21
    ∷ refused (table_of 1 0 (line 2 20 1 ∷ [])) 21
    -- tasks in order: the first task's 21 before the second's 20
    ∷ refused (table_of 1 1 (line 2 20 2 ∷ line 0 20 1 ∷ [])) 21
    ∷ refused (table_of 1 1 (line 2 20 1 ∷ line 0 20 2 ∷ [])) 20
    -- what a refused table gives is of no use
    ∷ breaks useless (someProcessor ∷ someTask ∷ [])
    -- a row for each server, the rows past them as they were; too few rows; a state that is not sound, though the rows are too few
    ∷ meters desk (replicate 4 old) (answer.Ok 4) desk_rows
    ∷ meters desk (replicate 6 old) (answer.Ok 4) (desk_rows ++ old ∷ old ∷ [])
    ∷ meters desk (replicate 3 old) (answer.Refused 22) (replicate 3 old)
    ∷ meters (counted 1 4 3 desk) (replicate 3 old) (answer.Refused 1) (replicate 3 old)
    ∷ []
