-- `settle::rule::bests` meets its contract: after s servers each task has the best of those. Assumes nothing.
use mathlib.Core.Path.{refl, ◌∙◌}
use native.Mathlib.Omega.{arith}
use Rattle.settle.proofs.Settled.{bests_none, bests_more, bests_skip, bests_done}
use Rattle.settle.proofs.rule.bests.Goals as goal
use Rattle.settle.proofs.rule.bests.Goals.{else-t-lt16, then-t-lt16}

pub loop-s-init : goal.loop-s-init
loop-s-init c =
    (omega arith, bests_none _ _)

pub loop-s-preserved : goal.loop-s-preserved
loop-s-preserved c =
    elim c.if-t-lt16.branch [
      | then-t-lt16 w ↦ (
        omega arith,
        w.xs-is ∙ bests_more _ _ _ _ _ _ c.loop-s-test.true refl w.if-t-lt16.true w.better.ensures c.loop-s.invariant.1,
      )
      | else-t-lt16 w ↦ (omega arith, w.xs-is ∙ bests_skip _ _ _ _ w.if-t-lt16.false c.loop-s.invariant.1)
    ]

pub returns : goal.returns
returns c =
    bests_done _ _ _ _ c.loop-s.invariant.0 c.loop-s-test.false c.loop-s.invariant.1
