-- What the loop keeps. Assumes nothing.
use Rattle.std.proofs.Common.{◌≡◌}
use Rattle.laws.specs.Loops.{count_to}
use Rattle.soundness.specs.Computed.{used_at}
use Rattle.soundness.proofs.lists.used.Given as goal

abbrev pub invariant-loop-x : goal.invariant-loop-x
invariant-loop-x l = l.count ≡ count_to l.x-index (used_at l.fn.xs)
