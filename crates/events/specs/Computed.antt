-- How the code computes: whether an event names nobody; the two turns of the servers that serve a task, waking and resting, as one loop makes them;
-- what n ticks make of one server and one task in use, and of all. Assumes nothing.
use Rattle.std.specs.Prelude.{Bool, true, false, ◌||◌, not, ◌&&◌, List, ℕ, ◌<◌, ◌+◌, ◌-◌, eqb, if◌then◌else◌}
use Rattle.laws.specs.Loops.{count_to, set_to}
use Rattle.model.specs.declared.Event.{Event}
use Rattle.model.specs.declared.Event.TheVariants.{Wake, Suspend, Dispatch, Preempt, Elapse, Recharge, Lock, Unlock}
use Rattle.model.specs.declared.Phase.{Phase}
use Rattle.model.specs.declared.Phase.TheVariants.{Idle, Active, Recharging}
use Rattle.model.specs.declared.Mode.{Mode}
use Rattle.model.specs.declared.Mode.TheVariants.{Suspended, Ready}
use Rattle.model.specs.declared.TaskNo.{TaskNo}
use Rattle.model.specs.declared.Server.{Server}
use Rattle.model.specs.declared.State.{State}
use Rattle.model.specs.declared.Task.{Task}
use Rattle.model.specs.State.{places, idle, active, running, placed}
use Rattle.model.specs.Events.{with_phase, refilled, server_by, wakes, woken_server, rests, rested_server, runs_out, spent_server, task_by, ticked_task}
use Rattle.events.specs.declared.turning.Turn.{Turn}
use Rattle.events.specs.declared.turning.Turn.TheVariants.{Wakes, Rests}
use Rattle.events.specs.declared.turning.Turned.{Turned}

abbrev pub elapses : Event → Bool
elapses (Wake t) = false
elapses (Suspend t) = false
elapses (Dispatch s) = false
elapses (Preempt s) = false
elapses (Elapse n) = true
elapses (Recharge s) = false
elapses (Lock t r) = false
elapses (Unlock t r) = false

-- the event that turns a task so
abbrev pub turn_of : Turn → TaskNo → Event
turn_of Wakes t = Wake t
turn_of Rests t = Suspend t

-- in which phases a server turns
abbrev pub concerns : Turn → Phase → Bool
concerns Wakes p = idle p
concerns Rests p = active p || running p

-- what it turns into
abbrev pub turned : Turn → ℕ → Server → Server
turned Wakes clock x = refilled Active clock x
turned Rests clock x = with_phase Idle x

-- the deadline of a server that wakes fits 32 bits
abbrev pub Timely : Turn → ℕ → Type 0
Timely Wakes deadline = deadline < 4294967296
Timely Rests deadline = Unit {0}

-- every server in use made anew by f, and the count of p
unfoldable pub servers_by : State → (ℕ → Bool) → (ℕ → Server) → Turned
servers_by st p f = record { server = set_to places (server_by st f) st.server; count = count_to places p }

unfoldable pub turns : Turn → State → ℕ → ℕ → Bool
turns Wakes st t = wakes st t
turns Rests st t = rests st t

unfoldable pub turned_server : Turn → State → ℕ → ℕ → Server
turned_server Wakes st t = woken_server st t
turned_server Rests st t = rested_server st t

abbrev pub turned_servers : Turn → State → ℕ → Turned
turned_servers turn st t = servers_by st (turns turn st t) (turned_server turn st t)

abbrev pub mode_after : Turn → Mode
mode_after Wakes = Ready
mode_after Rests = Suspended

-- a server that executes the task it serves or not, and that task its own or not
abbrev pub spent_by : ℕ → Bool → Bool → Server → Server
spent_by n executes home x = record {
  phase = if running x.phase && eqb x.budget n then Recharging else x.phase;
  budget = if running x.phase then x.budget - n else x.budget;
  deadline = x.deadline;
  quota = x.quota;
  period = x.period;
  own = x.own + (if executes && home then n else 0);
  lent = x.lent + (if executes && not home then n else 0);
  spin = x.spin + (if running x.phase && not executes then n else 0);
}

abbrev pub spent_servers : State → ℕ → Turned
spent_servers st n = servers_by st (runs_out st n) (spent_server st n)

abbrev pub ticked_by : ℕ → Task → Task
ticked_by n x = record {
  mode = x.mode;
  runs = x.runs;
  declared = x.declared;
  depth = x.depth;
  executed = if placed x.runs then x.executed + n else x.executed;
  held = x.held;
}

unfoldable pub ticked_tasks : State → ℕ → List Task
ticked_tasks st n = set_to places (task_by st (ticked_task st n)) st.task
