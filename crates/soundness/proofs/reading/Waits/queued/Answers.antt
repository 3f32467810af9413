-- `soundness::reading::Waits::queued` meets its contract. Assumes nothing.
use Rattle.std.proofs.Common.{rules}
use mathlib.Core.Path.{sym, ◌∙◌}
use Rattle.model.specs.State.{present}
use Rattle.laws.proofs.Sum.{sum_done}
use Rattle.soundness.specs.Computed.{length_at}
use Rattle.soundness.proofs.Passed.{waiters}
use Rattle.soundness.proofs.Turns.{counted_none, counted_more, counted_skip}
use Rattle.soundness.proofs.reading.Waits.queued.Goals as goal
use Rattle.soundness.proofs.reading.Waits.queued.Goals.{then-in_use, else-in_use}

pub loop-r-init : goal.loop-r-init
unfolding present
loop-r-init c = counted_none (present c.args.self.now.reading.st.now) (waiters c.args.self.now.reading.st.now)

pub loop-r-preserved : goal.loop-r-preserved
unfolding present
loop-r-preserved c =
    let test = sym c.in_use.ensures in
    elim c.if-in_use.branch [
      | then-in_use w ↦ counted_more (present c.args.self.now.reading.st.now) (waiters c.args.self.now.reading.st.now) _ _ _ c.loop-r-test.true c.loop-r.invariant _ (test ∙ w.if-in_use.true) w.from-total.ensures (search rules) w.total-is
      | else-in_use w ↦ counted_skip (present c.args.self.now.reading.st.now) (waiters c.args.self.now.reading.st.now) _ _ _ c.loop-r-test.true c.loop-r.invariant (test ∙ w.if-in_use.false) w.total-is
    ]

pub returns : goal.returns
unfolding present length_at
returns c = sum_done _ _ _ _ c.loop-r.invariant.0 c.loop-r-test.false c.loop-r.invariant.2
