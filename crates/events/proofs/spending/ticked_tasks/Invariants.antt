-- What the loop keeps. Assumes nothing.
use Rattle.laws.proofs.Making.{Making}
use Rattle.model.specs.Events.{task_by, ticked_task}
use Rattle.events.proofs.spending.ticked_tasks.Given as goal

abbrev pub invariant-loop-t : goal.invariant-loop-t
invariant-loop-t l = Making 16 (task_by l.st (ticked_task l.st l.n)) l.st.task l.t l.ticked
