-- What is taken out of a state, as arrays of sixteen places: who owns each resource, what each task waits for, where its chain ends, whom each Running
-- server serves, and what remains of its budget. `nobody` stands where there is none. Assumes nothing.
use Rattle.std.specs.Prelude.{List, ℕ, get_or, if◌then◌else◌}
use Rattle.laws.specs.Loops.{made_by}
use Rattle.model.specs.declared.TaskNo.{TaskNo}
use Rattle.model.specs.declared.ServerNo.{ServerNo}
use Rattle.model.specs.declared.Server.{Server}
use Rattle.model.specs.declared.State.{State}
use Rattle.model.specs.State.{places, nobody, no_server, task_at, awaited, in_use, here, running, owner_of, served, running_at}

-- sixteen numbers, tasks' numbers or servers' numbers, each a function of its place
unfoldable pub array_of : (ℕ → ℕ) → List ℕ
array_of f = made_by places f nobody

unfoldable pub task_of : (ℕ → ℕ) → ℕ → TaskNo
task_of f i = record { 0 = f i }

unfoldable pub tasks_of : (ℕ → ℕ) → List TaskNo
tasks_of f = made_by places (task_of f) (record { 0 = nobody })

unfoldable pub server_of : (ℕ → ℕ) → ℕ → ServerNo
server_of f i = record { 0 = f i }

unfoldable pub servers_of : (ℕ → ℕ) → List ServerNo
servers_of f = made_by places (server_of f) (record { 0 = nobody })

-- the owner of each resource, if it is a task in use (rule 3.1)
unfoldable pub owners_of : State → List TaskNo
owners_of st = tasks_of (owner_of st)

-- what each task in use waits for
unfoldable pub wanted : State → ℕ → ℕ
wanted st t = if here st t then awaited (task_at st t).mode else nobody

unfoldable pub wanted_of : State → List ℕ
wanted_of st = array_of (wanted st)

-- the chain end of each task (rule 3.2)
unfoldable pub ends_of : State → List TaskNo
ends_of st = tasks_of (served st)

-- the task that each server serves while it is Running (rule 3.3); and the same from the servers, how many are in use, and the chain ends
unfoldable pub runs_for : State → ℕ → ℕ
runs_for st s = if running_at st s then served st s else nobody

unfoldable pub on_at : List Server → ℕ → List TaskNo → ℕ → ℕ
on_at servers count ends s =
    if in_use count s then (if running (get_or servers s no_server).phase then (get_or ends s (record { 0 = 0 })).0 else nobody) else nobody

unfoldable pub on_by : List Server → ℕ → List TaskNo → List TaskNo
on_by servers count ends = tasks_of (on_at servers count ends)

-- what remains of each budget, 0 where the number is not in use
unfoldable pub budget_in : List Server → ℕ → ℕ → ℕ
budget_in servers count s = if in_use count s then (get_or servers s no_server).budget else 0

unfoldable pub budgets_of : List Server → ℕ → List ℕ
budgets_of servers count = made_by places (budget_in servers count) 0
