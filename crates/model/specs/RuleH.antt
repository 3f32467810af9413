-- Who executes after an event: rule H, in the three steps of rules 6.1 to 6.3. Assumes nothing.
use Rattle.std.specs.Prelude.{None, Some, List, ℕ, ltb, if◌then◌else◌}
use Rattle.laws.specs.Loops.{set_to, best_to}
use Rattle.model.specs.State.{Runs, TaskNumber, ServerNumber, places, nobody, server_at, task_at, here, running_for, executor_of}
use Rattle.model.specs.declared.Task.{Task}
use Rattle.model.specs.declared.State.{State}

unfoldable pub budget_at : State → ServerNumber → ℕ
budget_at st s = (server_at st s).budget

-- rule 6.3: of the Running servers that serve t the one with the most budget, of equals the first; nobody where none serves it
unfoldable pub chosen : State → TaskNumber → ServerNumber
chosen st t = best_to nobody places (running_for st t) (budget_at st)

-- rules 6.1 to 6.3 in their order: the server from before the event if it may keep t, else the acting one if it may have it, else the chosen one
unfoldable pub executor_by : State → ServerNumber → ServerNumber → TaskNumber → ServerNumber
executor_by st before acting t =
    if running_for st t before then before else if running_for st t acting then acting else chosen st t

abbrev pub runs_in : ServerNumber → Runs
runs_in s = if ltb s places then Some (record { 0 = s }) else None

abbrev pub with_runs : Runs → Task → Task
with_runs x k = record { mode = k.mode; runs = x; declared = k.declared; depth = k.depth; executed = k.executed; held = k.held }

-- task t after rule H: `old` is the state before the event, `st` the changed one, `acting` the server of rule 6.2 or nobody
unfoldable pub settled_task : State → ServerNumber → State → TaskNumber → Task
settled_task old acting st t = if here st t then with_runs (runs_in (executor_by st (executor_of old t) acting t)) (task_at st t) else task_at st t

abbrev pub with_tasks : List Task → State → State
with_tasks ts st = record { processors = st.processors; tasks = st.tasks; resources = st.resources; clock = st.clock; server = st.server; task = ts; resource = st.resource }

-- rules 6.1 to 6.3 for every task in use
unfoldable pub settled : State → ServerNumber → State → State
settled old acting st = with_tasks (set_to places (settled_task old acting st) st.task) st
