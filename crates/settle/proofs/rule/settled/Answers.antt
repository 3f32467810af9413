-- `settle::rule::settled` meets its contract: after t tasks those have the executors that rule H gives them. Assumes nothing.
use mathlib.Core.Path.{sym, ◌∙◌}
use native.Mathlib.Omega.{arith}
use Rattle.settle.proofs.Settled.{settled_none, settled_more, settled_skip, settled_done}
use Rattle.settle.proofs.rule.settled.Goals as goal
use Rattle.settle.proofs.rule.settled.Goals.{else-in_use, then-in_use}

pub loop-t-init : goal.loop-t-init
loop-t-init c =
    (omega arith, settled_none _ _ _ _)

pub loop-t-preserved : goal.loop-t-preserved
loop-t-preserved c =
    let test = sym c.in_use.ensures in
    elim c.if-in_use.branch [
      | then-in_use w ↦ (
        omega arith,
        w.st-is ∙ settled_more _ _ _ _ _ _ _ _ _ _ (test ∙ w.if-in_use.true) w.executor_in.ensures w.executor-s.ensures w.runs_in.ensures w.with_runs.ensures c.loop-t.invariant.1,
      )
      | else-in_use w ↦ (omega arith, w.st-is ∙ settled_skip _ _ _ _ _ _ (test ∙ w.if-in_use.false) c.loop-t.invariant.1)
    ]

pub returns : goal.returns
returns c =
    settled_done _ _ _ _ _ _ _ _
    c.requires
    c.running_for-on.ensures
    c.budgets-left.ensures
    c.bests-best.ensures
    c.loop-t.invariant.0
    c.loop-t-test.false
    c.loop-t.invariant.1
