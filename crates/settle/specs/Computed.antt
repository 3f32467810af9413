-- How the code computes rule H: on arrays that are taken out of the states once. proofs/Settled.antt joins it to model/specs/RuleH.antt.
-- Assumes nothing.
use Rattle.std.specs.Prelude.{Bool, ◌&&◌, List, ℕ, ltb, eqb, get_or, if◌then◌else◌}
use Rattle.laws.specs.Loops.{set_to, best_to}
use Rattle.model.specs.declared.TaskNo.{TaskNo}
use Rattle.model.specs.declared.ServerNo.{ServerNo}
use Rattle.model.specs.declared.Task.{Task}
use Rattle.model.specs.declared.State.{State}
use Rattle.model.specs.State.{places, nobody, task_at, here, executor_of}
use Rattle.model.specs.RuleH.{runs_in, with_runs, with_tasks}
use Rattle.chain.specs.Arrays.{servers_of, on_by, budgets_of}

-- s is a Running server that serves t: `on` says whom each server serves while it is Running
unfoldable pub serves_by : List TaskNo → ℕ → ℕ → Bool
serves_by on t s = ltb s places && eqb (get_or on s (record { 0 = 0 })).0 t

-- the better of server s and the best so far
unfoldable pub better_by : List ℕ → ℕ → ℕ → ℕ
better_by budgets s best =
    if ltb best places then (if ltb (get_or budgets best 0) (get_or budgets s 0) then s else best) else s

unfoldable pub budget_by : List ℕ → ℕ → ℕ
budget_by budgets s = get_or budgets s 0

-- step 3, by the first n servers, for each task
unfoldable pub best_by : List TaskNo → List ℕ → ℕ → ℕ → ℕ
best_by on budgets n t = best_to nobody n (serves_by on t) (budget_by budgets)

unfoldable pub bests_by : List TaskNo → List ℕ → List ServerNo
bests_by on budgets = servers_of (best_by on budgets places)

-- task t: step 1, else step 2, else step 3, which is `most`
unfoldable pub executor_in : List TaskNo → ℕ → ℕ → ℕ → ℕ → ℕ
executor_in on before acting most t = if serves_by on t before then before else if serves_by on t acting then acting else most

-- who executed a task before is what its entry still says
unfoldable pub settled_task_by : List TaskNo → List ServerNo → ℕ → State → ℕ → Task
settled_task_by on best acting st t =
    if here st t
    then with_runs (runs_in (executor_in on (executor_of st t) acting (get_or best t (record { 0 = 0 })).0 t)) (task_at st t)
    else task_at st t

-- the first n tasks done
unfoldable pub settled_to : List TaskNo → List ServerNo → ℕ → State → ℕ → State
settled_to on best acting st n = with_tasks (set_to n (settled_task_by on best acting st) st.task) st

unfoldable pub settled_by : List TaskNo → ℕ → State → State
settled_by ends acting st =
    settled_to (on_by st.server st.tasks ends)
    (bests_by (on_by st.server st.tasks ends) (budgets_of st.server st.tasks))
    acting
    st
    places
