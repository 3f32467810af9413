-- What the loop keeps. Assumes nothing.
use Rattle.std.proofs.Common.{◌≡◌}
use Rattle.laws.specs.Loops.{fold_to}
use Rattle.bound.specs.Sets.{no_task}
use Rattle.bound.specs.Interference.{blocker}
use Rattle.bound.proofs.draw.Drawing.blockers.Given as goal

abbrev pub invariant-loop-section : goal.invariant-loop-section
invariant-loop-section l = l.found ≡ fold_to l.section-index (blocker l.self.sections l.resource l.b) no_task
