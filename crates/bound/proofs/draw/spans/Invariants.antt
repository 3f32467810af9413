-- What the loop keeps. Assumes nothing.
use Prim.Native.Nat.{◌≤◌}
use Rattle.bound.proofs.Spans.{Begun}
use Rattle.bound.proofs.draw.spans.Given as goal

abbrev pub invariant-loop-i : goal.invariant-loop-i
invariant-loop-i l = (l.i ≤ l.s.count) × Begun l.s l.drawn l.i
