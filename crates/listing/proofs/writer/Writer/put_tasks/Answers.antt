-- `listing::writer::Writer::put_tasks` meets its contract. Assumes nothing.
use mathlib.Core.Path.{sym, ◌∙◌}
use Rattle.model.specs.State.{here}
use Rattle.listing.specs.Text.{short_line_most}
use Rattle.listing.proofs.InUse.{lines_none, lines_more, lines_skip, task_line_lem, no_task_lem}
use Rattle.listing.proofs.writer.Writer.put_tasks.Goals as goal
use Rattle.listing.proofs.writer.Writer.put_tasks.Goals.{else-in_use, then-in_use}

pub loop-t-init : goal.loop-t-init
loop-t-init c = lines_none short_line_most _ _

pub loop-t-preserved : goal.loop-t-preserved
unfolding here
loop-t-preserved c =
    let test = sym c.in_use.ensures in
    elim c.if-in_use.branch [ then-in_use w ↦ rw w.self-is (lines_more short_line_most _ _ _ c.loop-t.invariant (task_line_lem _ _ (test ∙ w.if-in_use.true)) w.put_task.ensures) | else-in_use w ↦ rw w.self-is (lines_skip short_line_most _ _ c.loop-t.invariant (no_task_lem _ _ (test ∙ w.if-in_use.false))) ]
