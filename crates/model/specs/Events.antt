-- What each event changes, before rule H: rules 7.1 to 7.10, and the accounts of rule 8.1. A new entry is a function of its number and of the state
-- before, so that entries not in use stay as they are (rule 1.7). Assumes nothing.
use Rattle.std.specs.Prelude.{None, Some, Bool, not, ◌&&◌, ◌||◌, List, ℕ, ◌+◌, ◌-◌, eqb, get_or, set, if◌then◌else◌}
use Rattle.laws.specs.Loops.{set_to}
use Rattle.model.specs.declared.TaskNo.{TaskNo}
use Rattle.model.specs.declared.Phase.{Phase}
use Rattle.model.specs.declared.Phase.TheVariants.{Idle, Active, Running, Recharging}
use Rattle.model.specs.declared.Mode.{Mode}
use Rattle.model.specs.declared.Mode.TheVariants.{Suspended, Ready, Waiting}
use Rattle.model.specs.State.{Owner, TaskNumber, ServerNumber, ResourceNumber, places, nobody, server_at, task_at, resource_at, here, idle, active, running, suspended, owned, served, running_at, executor_of, executing, executes}
use Rattle.model.specs.declared.Server.{Server}
use Rattle.model.specs.declared.Task.{Task}
use Rattle.model.specs.declared.Resource.{Resource}
use Rattle.model.specs.declared.State.{State}
use Rattle.model.specs.declared.Event.{Event}
use Rattle.model.specs.declared.Event.TheVariants.{Wake, Suspend, Dispatch, Preempt, Elapse, Recharge, Lock, Unlock}
use Rattle.model.specs.RuleH.{with_tasks}

abbrev pub with_servers : List Server → State → State
with_servers ss st = record { processors = st.processors; tasks = st.tasks; resources = st.resources; clock = st.clock; server = ss; task = st.task; resource = st.resource }

abbrev pub with_resources : List Resource → State → State
with_resources rs st = record { processors = st.processors; tasks = st.tasks; resources = st.resources; clock = st.clock; server = st.server; task = st.task; resource = rs }

abbrev pub with_clock : ℕ → State → State
with_clock n st = record { processors = st.processors; tasks = st.tasks; resources = st.resources; clock = n; server = st.server; task = st.task; resource = st.resource }

abbrev pub with_server : ServerNumber → Server → State → State
with_server s x st = with_servers (set st.server s x) st

abbrev pub with_task : TaskNumber → Task → State → State
with_task t x st = with_tasks (set st.task t x) st

abbrev pub with_resource : ResourceNumber → Resource → State → State
with_resource r x st = with_resources (set st.resource r x) st

abbrev pub with_phase : Phase → Server → Server
with_phase p s = record { phase = p; budget = s.budget; deadline = s.deadline; quota = s.quota; period = s.period; own = s.own; lent = s.lent; spin = s.spin }

-- rules 7.1, 7.6: a full budget, and the deadline one period from now
abbrev pub refilled : Phase → ℕ → Server → Server
refilled p clock s = record { phase = p; budget = s.quota; deadline = clock + s.period; quota = s.quota; period = s.period; own = s.own; lent = s.lent; spin = s.spin }

abbrev pub with_mode : Mode → Task → Task
with_mode m k = record { mode = m; runs = k.runs; declared = k.declared; depth = k.depth; executed = k.executed; held = k.held }

-- rule 1.7: each server in use replaced by what f makes of its number
unfoldable pub server_by : State → (ServerNumber → Server) → ServerNumber → Server
server_by st f s = if here st s then f s else server_at st s

unfoldable pub each_server : State → (ServerNumber → Server) → State
each_server st f = with_servers (set_to places (server_by st f) st.server) st

-- rule 7.1, wake t: the Idle servers that serve t become Active, filled anew, and t is ready
unfoldable pub wakes : State → TaskNumber → ServerNumber → Bool
wakes st t s = here st s && idle (server_at st s).phase && eqb (served st s) t

unfoldable pub woken_server : State → TaskNumber → ServerNumber → Server
woken_server st t s = if wakes st t s then refilled Active st.clock (server_at st s) else server_at st s

unfoldable pub woken : State → TaskNumber → State
woken st t = with_task t (with_mode Ready (task_at st t)) (each_server st (woken_server st t))

-- rules 7.2, 7.8: the Active and Running servers that serve t become Idle and keep budget and deadline
unfoldable pub rests : State → TaskNumber → ServerNumber → Bool
rests st t s = here st s && (active (server_at st s).phase || running (server_at st s).phase) && eqb (served st s) t

unfoldable pub rested_server : State → TaskNumber → ServerNumber → Server
rested_server st t s = if rests st t s then with_phase Idle (server_at st s) else server_at st s

unfoldable pub rested : State → TaskNumber → State
rested st t = each_server st (rested_server st t)

-- rule 7.2, suspend t
unfoldable pub slept : State → TaskNumber → State
slept st t = with_task t (with_mode Suspended (task_at st t)) (rested st t)

-- rules 7.3, 7.4, dispatch s and preempt s: the phase alone
unfoldable pub phased : Phase → State → ServerNumber → State
phased p st s = with_server s (with_phase p (server_at st s)) st

-- rule 8.1: what n ticks add to a server's accounts, by what it does when they begin: the task of its own number, another task, or spinning
unfoldable pub own_ticks : State → ℕ → ServerNumber → ℕ
own_ticks st n s = if executes st s && eqb (served st s) s then n else 0

unfoldable pub lent_ticks : State → ℕ → ServerNumber → ℕ
lent_ticks st n s = if executes st s && not (eqb (served st s) s) then n else 0

unfoldable pub spin_ticks : State → ℕ → ServerNumber → ℕ
spin_ticks st n s = if running_at st s && not (executes st s) then n else 0

-- rule 7.5, elapse n: the Running servers spend n, and those with nothing left become Recharging, all at once
unfoldable pub runs_out : State → ℕ → ServerNumber → Bool
runs_out st n s = running_at st s && eqb (server_at st s).budget n

unfoldable pub spent_server : State → ℕ → ServerNumber → Server
spent_server st n s = record {
  phase = if runs_out st n s then Recharging else (server_at st s).phase;
  budget = if running_at st s then (server_at st s).budget - n else (server_at st s).budget;
  deadline = (server_at st s).deadline;
  quota = (server_at st s).quota;
  period = (server_at st s).period;
  own = (server_at st s).own + own_ticks st n s;
  lent = (server_at st s).lent + lent_ticks st n s;
  spin = (server_at st s).spin + spin_ticks st n s;
}

-- rule 8.1: n ticks executed by a task that executes when they begin
unfoldable pub ticked_task : State → ℕ → TaskNumber → Task
ticked_task st n t = record {
  mode = (task_at st t).mode;
  runs = (task_at st t).runs;
  declared = (task_at st t).declared;
  depth = (task_at st t).depth;
  executed = if executing st t then (task_at st t).executed + n else (task_at st t).executed;
  held = (task_at st t).held;
}

unfoldable pub task_by : State → (TaskNumber → Task) → TaskNumber → Task
task_by st f t = if here st t then f t else task_at st t

-- rules 7.5, 8.1 together: clock, servers and tasks
unfoldable pub elapsed : State → ℕ → State
elapsed st n = with_clock (st.clock + n) (with_tasks (set_to places (task_by st (ticked_task st n)) st.task) (each_server st (spent_server st n)))

-- rule 7.6, recharge s: filled anew; Idle behind a task that is suspended, otherwise Active
unfoldable pub recharged_phase : State → ServerNumber → Phase
recharged_phase st s = if suspended (task_at st (served st s)).mode then Idle else Active

unfoldable pub recharged : State → ServerNumber → State
recharged st s = with_server s (refilled (recharged_phase st s) st.clock (server_at st s)) st

-- rules 2.3, 2.6: a stack with r on top; with its top given up
abbrev pub pushed : ResourceNumber → Task → Task
pushed r k = record { mode = k.mode; runs = k.runs; declared = k.declared; depth = k.depth + 1; executed = k.executed; held = set k.held k.depth r }

abbrev pub popped : Task → Task
popped k = record { mode = k.mode; runs = k.runs; declared = k.declared; depth = k.depth - 1; executed = k.executed; held = set k.held (k.depth - 1) 0 }

abbrev pub with_owner : Owner → Resource → Resource
with_owner o x = record { owner = o; waiting = x.waiting; queue = x.queue }

-- rules 2.4, 2.6: a queue with t at its end; with its first given up, the others one place on
abbrev pub enqueued : TaskNumber → Resource → Resource
enqueued t x = record { owner = x.owner; waiting = x.waiting + 1; queue = set x.queue x.waiting (record { 0 = t }) }

unfoldable pub next_in_queue : List TaskNo → ℕ → TaskNo
next_in_queue q j = get_or q (j + 1) (record { 0 = 0 })

unfoldable pub shifted : List TaskNo → ℕ → List TaskNo
shifted q last = set (set_to last (next_in_queue q) q) last (record { 0 = 0 })

abbrev pub dequeued : Resource → Resource
dequeued x = record { owner = x.owner; waiting = x.waiting - 1; queue = shifted x.queue (x.waiting - 1) }

abbrev pub first_waiter : Resource → TaskNumber
first_waiter x = (get_or x.queue 0 (record { 0 = 0 })).0

-- rule 7.7, lock of what nobody owns
unfoldable pub granted : State → TaskNumber → ResourceNumber → State
granted st t r =
    with_task t (pushed r (task_at st t)) (with_resource r (with_owner (Some (record { 0 = t })) (resource_at st r)) st)

-- rule 7.8, lock of what somebody owns, in two stages: t waits, last in the queue,
unfoldable pub joined : State → TaskNumber → ResourceNumber → State
joined st t r = with_task t (with_mode (Waiting r) (task_at st t)) (with_resource r (enqueued t (resource_at st r)) st)

-- and, by the chains that are then, the servers of a suspended chain end rest
unfoldable pub rested_end : State → TaskNumber → State
rested_end st t = if suspended (task_at st (served st t)).mode then rested st (served st t) else st

-- rules 7.7, 7.8
unfoldable pub locked : State → TaskNumber → ResourceNumber → State
locked st t r = if owned (resource_at st r).owner then rested_end (joined st t r) t else granted st t r

-- rule 7.9, unlock of what nobody waits for
unfoldable pub freed : State → TaskNumber → ResourceNumber → State
freed st t r = with_task t (popped (task_at st t)) (with_resource r (with_owner None (resource_at st r)) st)

-- rule 7.10, unlock of what has a queue: the heir is its first. Whole chains go with it, since links lead to owners (rule 3.1).
unfoldable pub passed : State → TaskNumber → ResourceNumber → TaskNumber → State
passed st t r heir =
    with_task heir
    (pushed r (with_mode Ready (task_at st heir)))
    (with_task t
    (popped (task_at st t))
    (with_resource r (with_owner (Some (record { 0 = heir })) (dequeued (resource_at st r))) st))

-- rules 7.9, 7.10
unfoldable pub unlocked : State → TaskNumber → ResourceNumber → State
unlocked st t r = if eqb (resource_at st r).waiting 0 then freed st t r else passed st t r (first_waiter (resource_at st r))

-- rules 7.1 to 7.10: the event's own change
abbrev pub changed : State → Event → State
changed st (Wake t) = woken st t.0
changed st (Suspend t) = slept st t.0
changed st (Dispatch s) = phased Running st s.0
changed st (Preempt s) = phased Active st s.0
changed st (Elapse n) = elapsed st n
changed st (Recharge s) = recharged st s.0
changed st (Lock t r) = locked st t.0 r
changed st (Unlock t r) = unlocked st t.0 r

-- rule 6.2: for a lock or an unlock the server in which the acting task executes, otherwise nobody
abbrev pub acting : State → Event → ServerNumber
acting st (Wake t) = nobody
acting st (Suspend t) = nobody
acting st (Dispatch s) = nobody
acting st (Preempt s) = nobody
acting st (Elapse n) = nobody
acting st (Recharge s) = nobody
acting st (Lock t r) = executor_of st t.0
acting st (Unlock t r) = executor_of st t.0

-- rules 7.1 to 7.10: the number of the task or the server that the event names; an elapse names none
abbrev pub number_of : Event → ℕ
number_of (Wake t) = t.0
number_of (Suspend t) = t.0
number_of (Dispatch s) = s.0
number_of (Preempt s) = s.0
number_of (Elapse n) = 0
number_of (Recharge s) = s.0
number_of (Lock t r) = t.0
number_of (Unlock t r) = t.0
