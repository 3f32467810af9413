-- What the loop keeps. Assumes nothing.
use mathlib.Core.Path.{◌≡◌}
use Prim.Native.Nat.{◌≤◌}
use Rattle.settle.specs.Computed.{settled_to}
use Rattle.settle.proofs.rule.settled.Given as goal

abbrev pub invariant-loop-t : goal.invariant-loop-t
invariant-loop-t l = (l.t ≤ 16) × (l.st ≡ settled_to l.on l.best l.acting.0 l.initial.st l.t)
