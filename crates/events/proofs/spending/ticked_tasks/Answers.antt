-- `events::spending::ticked_tasks` meets its contract. Assumes nothing.
use mathlib.Core.Path.{refl, sym, ◌∙◌}
use Rattle.laws.proofs.Cases.{if_yes, if_no}
use Rattle.laws.proofs.Making.{making_none, making_more, making_skip, making_done}
use Rattle.model.specs.State.{here, no_task}
use Rattle.model.specs.Events.{task_by}
use Rattle.events.specs.Computed.{ticked_tasks}
use Rattle.events.proofs.Ticks.{ticked_here, executed_fits_lem}
use Rattle.events.proofs.spending.ticked_tasks.Goals as goal
use Rattle.events.proofs.spending.ticked_tasks.Goals.{else-in_use, then-in_use}

pub loop-t-init : goal.loop-t-init
unfolding here task_by ticked_tasks
loop-t-init c =
    making_none refl

pub ticked_task-requires : goal.ticked_task-requires
unfolding here task_by ticked_tasks
ticked_task-requires c =
    executed_fits_lem _ _ c.requires.st_value c.requires.n_bound _ (sym c.in_use.ensures ∙ c.if-in_use.true)

pub loop-t-preserved : goal.loop-t-preserved
unfolding here task_by ticked_tasks
loop-t-preserved c =
    let used = sym c.in_use.ensures in
    elim c.if-in_use.branch [ then-in_use w ↦ let here = used ∙ w.if-in_use.true in making_more c.loop-t-test.true w.ticked-is (ticked_here _ _ _ _ here w.ticked_task.ensures ∙ sym (if_yes _ _ _ here)) c.loop-t.invariant | else-in_use w ↦ making_skip c.loop-t-test.true no_task w.ticked-is (if_no _ _ _ (used ∙ w.if-in_use.false)) c.loop-t.invariant ]

pub returns : goal.returns
unfolding here task_by ticked_tasks
returns c =
    making_done c.loop-t-test.false c.loop-t.invariant
