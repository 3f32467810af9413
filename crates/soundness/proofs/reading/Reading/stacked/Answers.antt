-- `soundness::reading::Reading::stacked` meets its contract. Assumes nothing.
use Rattle.std.proofs.Common.{rules}
use mathlib.Core.Path.{sym, ◌∙◌}
use Rattle.model.specs.State.{here}
use Rattle.laws.proofs.Sum.{sum_done}
use Rattle.soundness.specs.Computed.{depth_at}
use Rattle.soundness.proofs.Passed.{depth}
use Rattle.soundness.proofs.Turns.{counted_none, counted_more, counted_skip}
use Rattle.soundness.proofs.reading.Reading.stacked.Goals as goal
use Rattle.soundness.proofs.reading.Reading.stacked.Goals.{then-in_use, else-in_use}

pub loop-t-init : goal.loop-t-init
unfolding here
loop-t-init c = counted_none (here c.args.self.now.st.now) (depth c.args.self.now.st.now)

pub loop-t-preserved : goal.loop-t-preserved
unfolding here
loop-t-preserved c =
    let test = sym c.in_use.ensures in
    elim c.if-in_use.branch [
      | then-in_use w ↦ counted_more (here c.args.self.now.st.now) (depth c.args.self.now.st.now) _ _ _ c.loop-t-test.true c.loop-t.invariant _ (test ∙ w.if-in_use.true) w.from-total.ensures (search rules) w.total-is
      | else-in_use w ↦ counted_skip (here c.args.self.now.st.now) (depth c.args.self.now.st.now) _ _ _ c.loop-t-test.true c.loop-t.invariant (test ∙ w.if-in_use.false) w.total-is
    ]

pub returns : goal.returns
unfolding here depth_at
returns c = sum_done _ _ _ _ c.loop-t.invariant.0 c.loop-t-test.false c.loop-t.invariant.2
