-- The examples that have to be proved by one theorem, in the order in which they were asked for: one table. Assumes nothing.
use Rattle.std.specs.Prelude.{List, [], ◌∷◌, ◌++◌, ℕ, ◌-◌, length, replicate, None, Some, Err}
use Rattle.model.specs.declared.Phase.TheVariants.{Active, Running, Recharging}
use Rattle.model.specs.State.{Runs}
use Rattle.model.specs.declared.Table.{Table}
use Rattle.model.specs.declared.Event.{Event}
use Rattle.model.specs.declared.Event.TheVariants.{Elapse}
use Rattle.model.specs.declared.Answer.TheVariants.{Ok, Refused}
use Rattle.model.specs.Events.{with_clock}
use Rattle.bound.specs.declared.Section.{Section}
use Rattle.bound.specs.declared.Sections.{Sections}
use Rattle.bound.specs.Answer.{bounded}
use Rattle.bound.specs.Table.{Parent, no_section}
use Rattle.marked.specs.Trace.{line, table_of, wake, suspend, dispatch, preempt, recharge, lock, unlock, trace_of}
use Rattle.marked.specs.Example.{Example, prints, leads, answers, refuses, bounds, last_state}

-- Case R: two processors, and three tasks that share one resource (docs/TRACE.md tells it line by line)
abbrev pub table_r : Table
table_r = table_of 2 1 (line 10 20 1 ∷ line 8 20 1 ∷ line 6 30 1 ∷ [])

abbrev pub events_r : List Event
events_r =
    wake 2 ∷ dispatch 2 ∷ lock 2 0 ∷ wake 0 ∷ dispatch 0 ∷ Elapse 2 ∷ lock 0 0 ∷ Elapse 4 ∷ wake 1 ∷ dispatch 1 ∷ recharge 2 ∷ Elapse 1
    ∷ unlock 2 0 ∷ unlock 0 0 ∷ suspend 0 ∷ dispatch 2 ∷ []

-- in server s
abbrev pub on : ℕ → Runs
on s = Some (record { 0 = s })

-- task 0 executes in server 0 and holds resource 0, for which tasks 1 and 2 wait, spinning in servers with these budgets
abbrev pub spinners : ℕ → ℕ → Table
spinners b c = table_of 3 1 (line 10 20 1 ∷ line b 20 1 ∷ line c 20 1 ∷ [])

abbrev pub spinning : List Event
spinning = wake 0 ∷ dispatch 0 ∷ lock 0 0 ∷ wake 1 ∷ dispatch 1 ∷ lock 1 0 ∷ wake 2 ∷ dispatch 2 ∷ lock 2 0 ∷ []

-- each of two tasks holds a resource, task 0 waits for task 1's, and task 1 asks for task 0's: the chain would close
abbrev pub table_closing : Table
table_closing = table_of 2 2 (line 10 20 3 ∷ line 10 20 3 ∷ [])

abbrev pub closing : List Event
closing = wake 0 ∷ dispatch 0 ∷ lock 0 0 ∷ wake 1 ∷ dispatch 1 ∷ lock 1 1 ∷ lock 0 1 ∷ lock 1 0 ∷ []

-- two servers that serve one task run out in the same elapse
abbrev pub table_together : Table
table_together = table_of 2 1 (line 5 20 1 ∷ line 5 20 1 ∷ [])

abbrev pub together : List Event
together = wake 0 ∷ dispatch 0 ∷ lock 0 0 ∷ wake 1 ∷ dispatch 1 ∷ lock 1 0 ∷ Elapse 5 ∷ []

abbrev pub section : ℕ → ℕ → ℕ → Parent → Section
section t r n p = record { task = record { 0 = t }; resource = r; length = n; parent = p }

-- so many tasks, and their sections
abbrev pub sections_of : ℕ → List Section → Sections
sections_of t xs = record { tasks = t; count = length xs; section = xs ++ replicate (12 - length xs) no_section }

-- the table of docs/BOUNDS.md: task 0 with one section, tasks 1 and 2 with one inside another
abbrev pub three_tasks : Sections
three_tasks =
    sections_of 3
    (section 0 1 5 None ∷ section 1 0 9 None ∷ section 1 1 4 (Some 1) ∷ section 2 0 8 None ∷ section 2 1 3 (Some 3) ∷ [])

abbrev pub table : List Example
table =
    prints (trace_of table_r events_r) "1 ok 1\n2 executes 2\n3 granted 0\n4 ok 1\n5 executes 0\n6 ok 0\n7 waits 2\n8 ok 1\n9 ok 1\n10 executes 1\n11 refused 14\n12 ok 0\n13 passed 0\n14 freed 0\n15 ok 1\n16 refused 7\nend 7\nserver 0 idle 3 20 2 1 4\nserver 1 running 7 26 1 0 0\nserver 2 recharging 0 30 6 0 0\ntask 0 2\ntask 1 1\ntask 2 7\n"
    ∷ answers (with_clock 29 (last_state table_r events_r)) (recharge 2) (Refused 14)
    ∷ answers (with_clock 30 (last_state table_r events_r)) (recharge 2) (Ok 1)
    ∷ refuses (Elapse 0) 10
    ∷ refuses (Elapse 1000001) 10
    ∷ leads (spinners 5 5) (spinning ++ preempt 0 ∷ []) (Ok 1) (Active ∷ Running ∷ Running ∷ []) (on 1 ∷ None ∷ None ∷ [])
    ∷ leads (spinners 5 6) (spinning ++ preempt 0 ∷ []) (Ok 1) (Active ∷ Running ∷ Running ∷ []) (on 2 ∷ None ∷ None ∷ [])
    ∷ leads table_closing closing (Refused 16) (Running ∷ Running ∷ []) (None ∷ on 1 ∷ [])
    ∷ leads table_together together (Ok 2) (Recharging ∷ Recharging ∷ []) (None ∷ None ∷ [])
    ∷ bounds three_tasks 0 1000000 (bounded 4 4)
    ∷ bounds three_tasks 1 1000000 (bounded 18 6)
    ∷ bounds three_tasks 2 1000000 (bounded 19 6)
    ∷ bounds three_tasks 0 3 (Err 46)
    ∷ bounds three_tasks 0 4 (bounded 4 4)
    ∷ []
