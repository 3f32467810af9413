-- What the loop keeps. Assumes nothing.
use Rattle.model.specs.State.{present}
use Rattle.soundness.proofs.Passed.{waiters}
use Rattle.soundness.proofs.Turns.{Counted}
use Rattle.soundness.proofs.reading.Waits.queued.Given as goal

abbrev pub invariant-loop-r : goal.invariant-loop-r
invariant-loop-r l = Counted (present l.fn.self.reading.st.now) (waiters l.fn.self.reading.st.now) l.r l.total
