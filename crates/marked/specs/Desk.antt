-- One state that shows much at once: two tasks on one resource, one ready, one asleep, both processors taken. Assumes nothing.
use Rattle.std.specs.Prelude.{List, [], ◌∷◌, None}
use Rattle.model.specs.declared.Phase.TheVariants.{Idle, Active, Running}
use Rattle.model.specs.declared.Mode.TheVariants.{Suspended, Ready, Waiting}
use Rattle.model.specs.declared.State.{State}
use Rattle.model.specs.declared.Table.{Table}
use Rattle.model.specs.declared.Event.{Event}
use Rattle.model.specs.declared.Event.TheVariants.{Elapse}
use Rattle.marked.specs.Trace.{line, table_of, wake, dispatch, lock}
use Rattle.marked.specs.Entries.{server, task, resource, by, state_of}
use Rattle.marked.specs.Marked.{on}

abbrev pub table_desk : Table
table_desk = table_of 2 3 (line 10 20 3 ∷ line 10 20 3 ∷ line 10 20 4 ∷ line 10 20 4 ∷ [])

-- the events that lead there
abbrev pub to_desk : List Event
to_desk = wake 0 ∷ dispatch 0 ∷ lock 0 0 ∷ lock 0 1 ∷ wake 1 ∷ dispatch 1 ∷ lock 1 0 ∷ wake 2 ∷ Elapse 3 ∷ []

-- task 0 executes and holds 0 and 1, 1 on top; task 1 waits for 0, and its server spins; task 2 is ready in an Active server; task 3 sleeps
abbrev pub desk : State
desk =
    state_of 2 3
    (server Running 7 20 10 20 3 0 0 ∷ server Running 7 20 10 20 0 0 3 ∷ server Active 10 20 10 20 0 0 0 ∷ server Idle 10 0 10 20 0 0 0 ∷ [])
    (task Ready (on 0) 3 (0 ∷ 1 ∷ []) 3 ∷ task (Waiting 0) None 3 [] 0 ∷ task Ready None 4 [] 0 ∷ task Suspended None 4 [] 0 ∷ [])
    (resource (by 0) (1 ∷ []) ∷ resource (by 0) [] ∷ resource None [] ∷ [])
