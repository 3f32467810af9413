-- `bound::draw::Drawing::blockers` meets its contract. Assumes nothing.
use Rattle.std.proofs.Common.{rules}
use Rattle.laws.proofs.Fold.{fold_none, fold_more, fold_done}
use Rattle.laws.proofs.Lists.{taken}
use Rattle.bound.specs.Table.{no_section}
use Rattle.bound.specs.Interference.{blockers}
use Rattle.bound.proofs.Accepted.{accepted_table}
use Rattle.bound.proofs.Steps.{task_taken, blocker_adds, blocker_other, blocker_inside}
use Rattle.bound.proofs.draw.Drawing.blockers.Goals as goal
use Rattle.bound.proofs.draw.Drawing.blockers.Goals.{then-section-resource+then-not-b-task, else-section-resource, else-section-resource-via-then-section-resource+else-not-b-task, else-section-resource-via-else-section-resource}

pub loop-section-init : goal.loop-section-init
unfolding blockers
loop-section-init c = fold_none _ _

pub bounds-b-task : goal.bounds-b-task
bounds-b-task c =
    task_taken c.args.self.now.sections (accepted_table _ c.args.self.now.laid.accepted) _ (search rules) c.loop-section-test.true

pub bounds-found-task : goal.bounds-found-task
bounds-found-task c =
    task_taken c.args.self.now.sections (accepted_table _ c.args.self.now.laid.accepted) _ (search rules) c.loop-section-test.true

pub loop-section-preserved : goal.loop-section-preserved
loop-section-preserved c =
    let s = c.args.self.now.sections in
    let at = taken s.count c.loop-section.section-index s.section no_section (search rules) c.loop-section-test.true in
    fold_more _ _ _ _ _ c.loop-section.invariant
    (elim c.if-section-resource.branch [
      | then-section-resource+then-not-b-task w ↦ blocker_adds s _ _ _ _ _ at.1 _ w.if-section-resource.true w.if-not-b-task.true w.found-is
      | else-section-resource w ↦
          elim w.else-section-resource.branch [
            | else-section-resource-via-then-section-resource+else-not-b-task v ↦ blocker_inside s _ _ _ _ _ at.1 _ v.if-not-b-task.false w.found-is
            | else-section-resource-via-else-section-resource v ↦ blocker_other s _ _ _ _ _ at.1 _ v.if-section-resource.false w.found-is
          ]
    ])

pub returns : goal.returns
unfolding blockers
returns c = fold_done _ _ _ _ _ (search rules) (search rules) c.loop-section.invariant
