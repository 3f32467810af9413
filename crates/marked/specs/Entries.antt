-- States entry by entry: how the examples write them down. Assumes nothing.
use Rattle.std.specs.Prelude.{List, ◌++◌, map, ℕ, ◌-◌, length, replicate, Some}
use Rattle.model.specs.declared.TaskNo.{TaskNo}
use Rattle.model.specs.declared.Phase.{Phase}
use Rattle.model.specs.declared.Mode.{Mode}
use Rattle.model.specs.declared.Server.{Server}
use Rattle.model.specs.declared.Task.{Task}
use Rattle.model.specs.declared.Resource.{Resource}
use Rattle.model.specs.declared.State.{State}
use Rattle.model.specs.State.{Runs, Owner, places}
use Rattle.model.specs.Fresh.{blank_server, blank_task, blank_resource}

-- a list up to its sixteen places
abbrev pub padded : {A : Type 0} → A → List A → List A
padded blank xs = xs ++ replicate (places - length xs) blank

-- state, budget, deadline, Q, P; ticks own, lent and spun
abbrev pub server : Phase → ℕ → ℕ → ℕ → ℕ → ℕ → ℕ → ℕ → Server
server p b d q per own lent spin = record { phase = p; budget = b; deadline = d; quota = q; period = per; own = own; lent = lent; spin = spin }

-- mode, where it executes, declared set, stack with its top last, ticks executed
abbrev pub task : Mode → Runs → ℕ → List ℕ → ℕ → Task
task m x declared stack ticks = record { mode = m; runs = x; declared = declared; depth = length stack; executed = ticks; held = padded 0 stack }

abbrev pub number_of : ℕ → TaskNo
number_of t = record { 0 = t }

-- owner and queue, its first first
abbrev pub resource : Owner → List ℕ → Resource
resource o queue = record { owner = o; waiting = length queue; queue = padded (number_of 0) (map number_of queue) }

abbrev pub by : ℕ → Owner
by t = Some (number_of t)

-- processors and clock; the entries in use, all others as in a fresh state
abbrev pub state_of : ℕ → ℕ → List Server → List Task → List Resource → State
state_of p clock ss ts rs = record {
  processors = p;
  tasks = length ts;
  resources = length rs;
  clock = clock;
  server = padded blank_server ss;
  task = padded blank_task ts;
  resource = padded blank_resource rs;
}

-- the same entries under other counts
abbrev pub counted : ℕ → ℕ → ℕ → State → State
counted p t r st = record { processors = p; tasks = t; resources = r; clock = st.clock; server = st.server; task = st.task; resource = st.resource }
