-- Groups, and what demand 3 needs its premises for: events in two orders. Assumes nothing.
use Rattle.std.specs.Prelude.{List, [], ◌∷◌, ◌++◌, None}
use Rattle.model.specs.declared.Phase.TheVariants.{Active, Running}
use Rattle.model.specs.declared.Mode.TheVariants.{Ready, Waiting}
use Rattle.model.specs.declared.State.{State}
use Rattle.model.specs.declared.Table.{Table}
use Rattle.model.specs.declared.Event.{Event}
use Rattle.model.specs.declared.Event.TheVariants.{Elapse}
use Rattle.model.specs.declared.Answer.{Answer}
use Rattle.model.specs.declared.Answer.TheVariants.{Ok, Granted, Freed, Refused}
use Rattle.model.specs.Fresh.{fresh_state}
use Rattle.marked.specs.Trace.{line, table_of, wake, dispatch, preempt, lock, unlock, executes, waits, trace_of}
use Rattle.marked.specs.Entries.{server, task, resource, by, state_of}
use Rattle.marked.specs.Example.{Example, prints, replies, reaches, groups}
use Rattle.marked.specs.Marked.{on}
use Rattle.marked.specs.Desk.{desk}

-- an event with its answer
infix 70 ◌gets◌
abbrev pub ◌gets◌ : Event → Answer → Event × Answer
e gets a = (e, a)

-- tasks 0 and 2 share nothing, and are joined through task 3; task 1 has its resource to itself, task 4 declares none
abbrev pub table_groups : Table
table_groups = table_of 1 3 (line 10 20 1 ∷ line 10 20 2 ∷ line 10 20 4 ∷ line 10 20 5 ∷ line 10 20 0 ∷ [])

-- the desk after task 0 gave up resource 1 and task 3 woke
abbrev pub later : State
later =
    state_of 2 3
    (server Running 7 20 10 20 3 0 0 ∷ server Running 7 20 10 20 0 0 3 ∷ server Active 10 20 10 20 0 0 0 ∷ server Active 10 23 10 20 0 0 0 ∷ [])
    (task Ready (on 0) 3 (0 ∷ []) 3 ∷ task (Waiting 0) None 3 [] 0 ∷ task Ready None 4 [] 0 ∷ task Ready None 4 [] 0 ∷ [])
    (resource (by 0) (1 ∷ []) ∷ resource None [] ∷ resource None [] ∷ [])

-- tasks 0 and 1 share resource 0; task 2 is a group of its own
abbrev pub pair : State
pair = fresh_state (table_of 3 2 (line 10 20 1 ∷ line 10 20 1 ∷ line 10 20 2 ∷ []))

abbrev pub groupwise : List (Event × Answer)
groupwise =
    wake 0 gets Ok 1 ∷ dispatch 0 gets executes 0 ∷ lock 0 0 gets Granted 0 ∷ wake 1 gets Ok 1 ∷ dispatch 1 gets executes 1 ∷ lock 1 0 gets waits 0
    ∷ wake 2 gets Ok 1 ∷ dispatch 2 gets executes 2 ∷ lock 2 1 gets Granted 1 ∷ []

abbrev pub mixed : List (Event × Answer)
mixed =
    wake 2 gets Ok 1 ∷ wake 0 gets Ok 1 ∷ dispatch 2 gets executes 2 ∷ dispatch 0 gets executes 0 ∷ lock 0 0 gets Granted 0 ∷ wake 1 gets Ok 1
    ∷ lock 2 1 gets Granted 1 ∷ dispatch 1 gets executes 1 ∷ lock 1 0 gets waits 0 ∷ []

-- tasks 0 and 1 run, and one of them is first at the resource
abbrev pub both_run : List (Event × Answer)
both_run = wake 0 gets Ok 1 ∷ dispatch 0 gets executes 0 ∷ wake 1 gets Ok 1 ∷ dispatch 1 gets executes 1 ∷ []

-- two groups and one processor
abbrev pub table_narrow : Table
table_narrow = table_of 1 0 (line 10 20 0 ∷ line 10 20 0 ∷ [])

abbrev pub narrow : State
narrow = fresh_state table_narrow

abbrev pub orders : List Example
orders =
    -- a group has its lowest task's number; a number past the tasks is a group of its own
    groups (fresh_state table_groups) (0 ∷ 1 ∷ 0 ∷ 0 ∷ 4 ∷ 5 ∷ [])
    ∷ groups desk (0 ∷ 0 ∷ 2 ∷ 2 ∷ [])
    ∷ groups pair (0 ∷ 0 ∷ 2 ∷ [])
    ∷ groups narrow (0 ∷ 1 ∷ [])
    -- two groups in two orders: each event has its answer, and the last state is the same
    ∷ reaches desk (unlock 0 1 gets Freed 1 ∷ wake 3 gets Ok 1 ∷ []) later
    ∷ reaches desk (wake 3 gets Ok 1 ∷ unlock 0 1 gets Freed 1 ∷ []) later
    -- the answers of longer runs
    ∷ replies pair groupwise
    ∷ replies pair mixed
    -- one group's own two events exchanged: other answers
    ∷ replies pair (both_run ++ lock 0 0 gets Granted 0 ∷ lock 1 0 gets waits 0 ∷ [])
    ∷ replies pair (both_run ++ lock 1 0 gets Granted 0 ∷ lock 0 0 gets waits 1 ∷ [])
    -- two groups, and a dispatch refused for want of a processor in one order only: other answers
    ∷ replies narrow (wake 0 gets Ok 1 ∷ wake 1 gets Ok 1 ∷ dispatch 0 gets executes 0 ∷ preempt 0 gets Ok 0 ∷ dispatch 1 gets executes 1 ∷ [])
    ∷ replies narrow (wake 0 gets Ok 1 ∷ wake 1 gets Ok 1 ∷ dispatch 0 gets executes 0 ∷ dispatch 1 gets Refused 8 ∷ preempt 0 gets Ok 0 ∷ [])
    -- an event moved across a passage of time: the same answers, another deadline
    ∷ prints (trace_of table_narrow (wake 0 ∷ Elapse 5 ∷ []))
    "1 ok 1\n2 ok 0\nend 5\nserver 0 active 10 20 0 0 0\nserver 1 idle 10 0 0 0 0\ntask 0 0\ntask 1 0\n"
    ∷ prints (trace_of table_narrow (Elapse 5 ∷ wake 0 ∷ []))
    "1 ok 0\n2 ok 1\nend 5\nserver 0 active 10 25 0 0 0\nserver 1 idle 10 0 0 0 0\ntask 0 0\ntask 1 0\n"
    ∷ []
