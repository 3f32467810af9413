-- What single events answer, on the desk and beside it: refusals 2 to 18 and 61 to 63, of which the first is told where several apply. Assumes nothing.
use Rattle.std.specs.Prelude.{List, [], ◌∷◌, ℕ, None}
use Rattle.model.specs.declared.Phase.TheVariants.{Active, Running, Recharging}
use Rattle.model.specs.declared.Mode.TheVariants.{Ready, Waiting}
use Rattle.model.specs.declared.Server.{Server}
use Rattle.model.specs.declared.State.{State}
use Rattle.model.specs.declared.Event.{Event}
use Rattle.model.specs.declared.Event.TheVariants.{Elapse}
use Rattle.model.specs.declared.Answer.TheVariants.{Ok, Freed, Refused, RefusedWaiting}
use Rattle.model.specs.Events.{with_clock, with_server, with_task}
use Rattle.marked.specs.Trace.{wake, suspend, dispatch, preempt, recharge, lock, unlock, executes, spins}
use Rattle.marked.specs.Entries.{server, task, resource, by, state_of}
use Rattle.marked.specs.Example.{Example, answers}
use Rattle.marked.specs.Marked.{on}
use Rattle.marked.specs.Desk.{desk}
use Rattle.marked.specs.States.{other_server, behind_sleeper}

-- each task holds its resource and waits for the next one's, task 2 executes: a lock of 0 or of 1 would close the chain
abbrev pub ring : State
ring =
    state_of 1 0
    (server Active 10 20 10 20 0 0 0 ∷ server Active 10 20 10 20 0 0 0 ∷ server Running 10 20 10 20 0 0 0 ∷ [])
    (task (Waiting 1) None 7 (0 ∷ []) 0 ∷ task (Waiting 2) None 7 (1 ∷ []) 0 ∷ task Ready (on 2) 7 (2 ∷ []) 0 ∷ [])
    (resource (by 0) [] ∷ resource (by 1) (0 ∷ []) ∷ resource (by 2) (1 ∷ []) ∷ [])

-- the desk with both processors free: task 0 executes nowhere
abbrev pub stopped : State
stopped =
    with_server 0 (server Active 7 20 10 20 3 0 0) (with_task 0 (task Ready None 3 (0 ∷ 1 ∷ []) 3) (other_server 1 (server Active 7 20 10 20 0 0 3)))

-- a server without budget, with this deadline
abbrev pub spent : ℕ → Server
spent d = server Recharging 0 d 10 20 0 0 0

-- refused on the desk
abbrev pub refusal : Event → ℕ → Example
refusal e n = answers desk e (Refused n)

abbrev pub answered : List Example
answered =
    -- no such task: before what its entry would say
    refusal (wake 4) 2
    ∷ refusal (suspend 4) 2
    ∷ refusal (dispatch 4) 2
    ∷ refusal (preempt 4) 2
    ∷ refusal (recharge 4) 2
    ∷ refusal (lock 4 9) 2
    ∷ refusal (unlock 4 9) 2
    -- no such resource
    ∷ refusal (lock 2 3) 3
    ∷ refusal (unlock 2 3) 3
    -- not declared, though the task does not execute either; unlock does not test it
    ∷ refusal (lock 2 0) 4
    ∷ refusal (lock 3 0) 4
    ∷ refusal (unlock 2 0) 63
    -- awake: ready, executing and waiting
    ∷ refusal (wake 2) 5
    ∷ refusal (wake 0) 5
    ∷ refusal (wake 1) 5
    -- a task that does not execute does nothing itself: asleep; waiting, with the resource; ready, and no Running server serves it
    ∷ refusal (suspend 3) 61
    ∷ refusal (lock 3 2) 61
    ∷ refusal (unlock 3 2) 61
    ∷ answers desk (suspend 1) (RefusedWaiting 0)
    ∷ answers desk (lock 1 0) (RefusedWaiting 0)
    ∷ answers desk (unlock 1 1) (RefusedWaiting 0)
    ∷ refusal (suspend 2) 63
    ∷ refusal (lock 2 2) 63
    ∷ refusal (unlock 2 2) 63
    -- the resource that the task itself awaits: neither the event's nor the last one of its chain; before what is held or owned is asked
    ∷ answers ring (suspend 0) (RefusedWaiting 1)
    ∷ answers ring (lock 0 0) (RefusedWaiting 1)
    ∷ answers ring (unlock 0 2) (RefusedWaiting 1)
    ∷ answers ring (lock 1 0) (RefusedWaiting 2)
    -- not Active, though no processor is free either
    ∷ refusal (dispatch 3) 7
    ∷ refusal (dispatch 0) 7
    ∷ refusal (dispatch 2) 8
    ∷ refusal (preempt 2) 9
    -- past the clock's limit, though above a budget too
    ∷ answers (with_clock 4000000000 desk) (Elapse 8) (Refused 11)
    ∷ refusal (Elapse 8) 12
    ∷ refusal (recharge 0) 13
    -- held already, on top or below it
    ∷ refusal (lock 0 0) 15
    ∷ refusal (lock 0 1) 15
    -- a chain would close, over one link and over two
    ∷ answers ring (lock 2 1) (Refused 16)
    ∷ answers ring (lock 2 0) (Refused 16)
    -- not owned, though neither declared nor on top; owned and not on top; on top
    ∷ refusal (unlock 0 2) 17
    ∷ refusal (unlock 0 0) 18
    ∷ answers desk (unlock 0 1) (Freed 1)
    -- a dispatched server tells the task that it serves, which is not its own here: it spins, or executes
    ∷ answers (other_server 1 (server Active 7 20 10 20 0 0 3)) (dispatch 1) (spins 0)
    ∷ answers stopped (dispatch 1) (executes 0)
    -- preempted, a spinner passes nothing on; an executing server does where another serves the task
    ∷ answers desk (preempt 1) (Ok 0)
    ∷ answers desk (preempt 0) (Ok 1)
    -- Running and Active servers that serve the task go to rest with it
    ∷ answers desk (suspend 0) (Ok 2)
    ∷ answers (other_server 1 (server Active 7 20 10 20 0 0 3)) (suspend 0) (Ok 2)
    -- all of a budget may elapse, and all of the clock
    ∷ answers desk (Elapse 7) (Ok 2)
    ∷ answers (with_clock 3999999993 desk) (Elapse 7) (Ok 2)
    -- a Recharging server stays so when its task wakes; recharged, it is Idle where the task that it serves sleeps, though its own waits
    ∷ answers (other_server 3 (spent 0)) (wake 3) (Ok 0)
    ∷ answers (other_server 3 (spent 3)) (recharge 3) (Ok 0)
    ∷ answers (other_server 3 (spent 4)) (recharge 3) (Refused 14)
    ∷ answers (behind_sleeper (spent 3)) (recharge 2) (Ok 0)
    ∷ answers (other_server 2 (spent 3)) (recharge 2) (Ok 1)
    ∷ []
