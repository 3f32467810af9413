-- How the code answers: from what the change has told, the tasks after rule H and the chain ends. Only dispatch and preempt look at a task.
-- Assumes nothing.
use Rattle.std.specs.Prelude.{List, ℕ, ◌<◌, eqb, get_or, if◌then◌else◌}
use Rattle.model.specs.declared.TaskNo.{TaskNo}
use Rattle.model.specs.declared.Task.{Task}
use Rattle.model.specs.declared.Event.{Event}
use Rattle.model.specs.declared.Event.TheVariants.{Wake, Suspend, Dispatch, Preempt, Elapse, Recharge, Lock, Unlock}
use Rattle.model.specs.declared.Answer.{Answer}
use Rattle.model.specs.declared.Answer.TheVariants.{Ok, Executes, Spins}
use Rattle.model.specs.State.{places, no_task, placed, executor_number}

-- the task that s serves, and its entry
abbrev pub end_at : List TaskNo → ℕ → TaskNo
end_at ends s = get_or ends s (record { 0 = 0 })

abbrev pub entry_at : List Task → List TaskNo → ℕ → Task
entry_at tasks ends s = get_or tasks (end_at ends s).0 no_task

abbrev pub answer_by : Answer → List Task → List TaskNo → Event → Answer
answer_by told tasks ends (Wake t) = told
answer_by told tasks ends (Suspend t) = told
answer_by told tasks ends (Dispatch s) =
    if eqb (executor_number (entry_at tasks ends s.0).runs) s.0 then Executes (end_at ends s.0) else Spins (end_at ends s.0)
answer_by told tasks ends (Preempt s) = if placed (entry_at tasks ends s.0).runs then told else Ok 0
answer_by told tasks ends (Elapse n) = told
answer_by told tasks ends (Recharge s) = told
answer_by told tasks ends (Lock t r) = told
answer_by told tasks ends (Unlock t r) = told

-- the places that it looks at are there
abbrev pub Within : List TaskNo → Event → Type 0
Within ends (Wake t) = Unit {0}
Within ends (Suspend t) = Unit {0}
Within ends (Dispatch s) = (s.0 < places) × ((end_at ends s.0).0 < places)
Within ends (Preempt s) = (s.0 < places) × ((end_at ends s.0).0 < places)
Within ends (Elapse n) = Unit {0}
Within ends (Recharge s) = Unit {0}
Within ends (Lock t r) = Unit {0}
Within ends (Unlock t r) = Unit {0}
