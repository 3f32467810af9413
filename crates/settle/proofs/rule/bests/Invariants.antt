-- What the loop keeps. Assumes nothing.
use mathlib.Core.Path.{◌≡◌}
use Prim.Native.Nat.{◌≤◌}
use Rattle.chain.specs.Arrays.{servers_of}
use Rattle.settle.specs.Computed.{best_by}
use Rattle.settle.proofs.rule.bests.Given as goal

abbrev pub invariant-loop-s : goal.invariant-loop-s
invariant-loop-s l = (l.s ≤ 16) × (l.xs ≡ servers_of (best_by l.on l.budgets l.s))
