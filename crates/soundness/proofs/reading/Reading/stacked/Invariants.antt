-- What the loop keeps. Assumes nothing.
use Rattle.model.specs.State.{here}
use Rattle.soundness.proofs.Passed.{depth}
use Rattle.soundness.proofs.Turns.{Counted}
use Rattle.soundness.proofs.reading.Reading.stacked.Given as goal

abbrev pub invariant-loop-t : goal.invariant-loop-t
invariant-loop-t l = Counted (here l.fn.self.st.now) (depth l.fn.self.st.now) l.t l.total
