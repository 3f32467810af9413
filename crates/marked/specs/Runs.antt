-- Runs from a fresh table: what is easily got wrong, and what tells wrong variants of the events and of rule H apart. Assumes nothing.
use Rattle.std.specs.Prelude.{List, [], ◌∷◌, ◌++◌, take, None}
use Rattle.model.specs.declared.Phase.TheVariants.{Idle, Active, Running, Recharging}
use Rattle.model.specs.declared.Table.{Table}
use Rattle.model.specs.declared.Event.{Event}
use Rattle.model.specs.declared.Event.TheVariants.{Elapse}
use Rattle.model.specs.declared.Answer.TheVariants.{Ok, Freed, Refused}
use Rattle.marked.specs.Trace.{line, table_of, wake, suspend, dispatch, preempt, recharge, lock, unlock, waits, passed, trace_of}
use Rattle.marked.specs.Example.{Example, prints, leads}
use Rattle.marked.specs.Marked.{on, spinners, spinning}

-- task 0 passes resource 1 to task 1, which holds 2, for which task 2 waits: server 2 serves task 1 from then on (rule 7.10); server 1 is preempted
abbrev pub table_passing : Table
table_passing = table_of 3 3 (line 10 20 2 ∷ line 10 20 6 ∷ line 10 20 4 ∷ [])

abbrev pub passing : List Event
passing =
    wake 1 ∷ dispatch 1 ∷ lock 1 2 ∷ wake 0 ∷ dispatch 0 ∷ lock 0 1 ∷ lock 1 1 ∷ wake 2 ∷ dispatch 2 ∷ lock 2 2 ∷ preempt 1 ∷ unlock 0 1 ∷ []

-- task 0 holds resource 0 and runs out of budget inside; task 1's server executes it and then goes with task 1, the new owner
abbrev pub table_two : Table
table_two = table_of 2 1 (line 2 20 1 ∷ line 9 20 1 ∷ [])

-- its own server is Recharging when it gives the resource away, so that it executes nowhere
abbrev pub homeless : List Event
homeless = wake 0 ∷ dispatch 0 ∷ lock 0 0 ∷ wake 1 ∷ dispatch 1 ∷ lock 1 0 ∷ Elapse 2 ∷ unlock 0 0 ∷ []

-- task 0 holds resource 0 and sleeps; task 1 locks it
abbrev pub asleep : List Event
asleep = wake 0 ∷ dispatch 0 ∷ lock 0 0 ∷ suspend 0 ∷ wake 1 ∷ dispatch 1 ∷ lock 1 0 ∷ []

-- task 0, preempted, executes in server 1, while server 2 with more budget spins for it; then it passes its resource to task 1
abbrev pub acting : List Event
acting = spinning ++ preempt 2 ∷ preempt 0 ∷ dispatch 2 ∷ unlock 0 0 ∷ []

-- the same with task 0's own server Running again: the hand-over leaves both tasks in need of a server
abbrev pub both : List Event
both = spinning ++ preempt 2 ∷ preempt 0 ∷ dispatch 0 ∷ unlock 0 0 ∷ []

-- the queue of a resource, first come, first served: each release hands it to the next
abbrev pub handed_on : List Event
handed_on = spinning ++ unlock 0 0 ∷ unlock 1 0 ∷ []

-- task 0 holds resource 0, preempted; task 1 executes and holds 1, for which server 2 spins with more budget; then task 1 locks 0
abbrev pub table_behind : Table
table_behind = table_of 3 2 (line 10 20 1 ∷ line 5 20 3 ∷ line 9 20 2 ∷ [])

abbrev pub behind : List Event
behind =
    wake 0 ∷ dispatch 0 ∷ lock 0 0 ∷ preempt 0 ∷ wake 1 ∷ dispatch 1 ∷ lock 1 1 ∷ wake 2 ∷ dispatch 2 ∷ lock 2 1 ∷ lock 1 0 ∷ []

-- two resources, one locked inside the other
abbrev pub table_nested : Table
table_nested = table_of 1 2 (line 10 20 3 ∷ [])

abbrev pub nesting : List Event
nesting = wake 0 ∷ dispatch 0 ∷ lock 0 0 ∷ lock 0 1 ∷ []

abbrev pub runs : List Example
runs =
    leads table_passing passing (passed 1) (Running ∷ Active ∷ Running ∷ []) (on 0 ∷ on 2 ∷ None ∷ [])
    -- what was passed lies on top, above what its new owner held before
    ∷ leads table_passing (passing ++ unlock 1 1 ∷ []) (Freed 1) (Running ∷ Active ∷ Running ∷ []) (on 0 ∷ on 2 ∷ None ∷ [])
    ∷ leads table_two homeless (passed 1) (Recharging ∷ Running ∷ []) (None ∷ on 1 ∷ [])
    ∷ leads table_two asleep (waits 0) (Idle ∷ Idle ∷ []) (None ∷ None ∷ [])
    ∷ leads table_two (asleep ++ wake 0 ∷ []) (Ok 2) (Active ∷ Active ∷ []) (None ∷ None ∷ [])
    ∷ leads (spinners 5 9) acting (passed 1) (Active ∷ Running ∷ Running ∷ []) (None ∷ on 1 ∷ None ∷ [])
    ∷ leads (spinners 5 9) both (passed 1) (Running ∷ Running ∷ Active ∷ []) (on 0 ∷ on 1 ∷ None ∷ [])
    ∷ leads (spinners 5 9) handed_on (passed 2) (Running ∷ Running ∷ Running ∷ []) (on 0 ∷ on 1 ∷ on 2 ∷ [])
    -- the server that executed the locker goes on with the chain's end; the next to wait behind it is told the end, and not the owner
    ∷ leads table_behind behind (waits 0) (Active ∷ Running ∷ Running ∷ []) (on 1 ∷ None ∷ None ∷ [])
    ∷ leads table_passing (take 10 passing) (waits 0) (Running ∷ Running ∷ Running ∷ []) (on 0 ∷ None ∷ None ∷ [])
    -- the last locked is the first to be unlocked
    ∷ leads table_nested (nesting ++ unlock 0 0 ∷ []) (Refused 18) (Running ∷ []) (on 0 ∷ [])
    ∷ leads table_nested (nesting ++ unlock 0 1 ∷ unlock 0 0 ∷ []) (Freed 0) (Running ∷ []) (on 0 ∷ [])
    -- not Recharging, though the deadline is to come too
    ∷ leads table_two (wake 0 ∷ recharge 0 ∷ []) (Refused 13) (Active ∷ Idle ∷ []) (None ∷ None ∷ [])
    -- a woken server has its budget anew and a deadline from now on
    ∷ prints (trace_of table_two (wake 1 ∷ dispatch 1 ∷ Elapse 4 ∷ suspend 1 ∷ Elapse 1 ∷ wake 1 ∷ []))
    "1 ok 1\n2 executes 1\n3 ok 0\n4 ok 1\n5 ok 0\n6 ok 1\nend 5\nserver 0 idle 2 0 0 0 0\nserver 1 active 9 25 4 0 0\ntask 0 0\ntask 1 4\n"
    -- so has a recharged one; a preempted one keeps both
    ∷ prints (trace_of table_two (wake 0 ∷ dispatch 0 ∷ Elapse 2 ∷ Elapse 21 ∷ recharge 0 ∷ []))
    "1 ok 1\n2 executes 0\n3 ok 1\n4 ok 0\n5 ok 1\nend 23\nserver 0 active 2 43 2 0 0\nserver 1 idle 9 0 0 0 0\ntask 0 2\ntask 1 0\n"
    ∷ prints (trace_of table_two (wake 1 ∷ dispatch 1 ∷ Elapse 4 ∷ preempt 1 ∷ []))
    "1 ok 1\n2 executes 1\n3 ok 0\n4 ok 0\nend 4\nserver 0 idle 2 0 0 0 0\nserver 1 active 5 20 4 0 0\ntask 0 0\ntask 1 4\n"
    ∷ []
