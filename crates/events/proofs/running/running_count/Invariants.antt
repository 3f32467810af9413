-- What the loop keeps. Assumes nothing.
use mathlib.Core.Path.{◌≡◌}
use Prim.Native.Nat.{◌≤◌}
use Rattle.laws.specs.Loops.{count_to}
use Rattle.model.specs.State.{running_at}
use Rattle.events.proofs.running.running_count.Given as goal

abbrev pub invariant-loop-s : goal.invariant-loop-s
invariant-loop-s l = (l.s ≤ 16) × (l.count ≤ l.s) × (l.count ≡ count_to l.s (running_at l.fn.st))
