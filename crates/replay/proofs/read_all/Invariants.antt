-- The loop keeps that no more is read than there is room for, and what is left of the buffer falls. Assumes nothing.
use mathlib.Core.Path.{◌≡◌}
use Prim.Native.Nat.{◌-◌, ◌≤◌}
use lib.ListN.{length}
use Rattle.replay.proofs.read_all.Given as goal

abbrev pub invariant-loop-n : goal.invariant-loop-n
invariant-loop-n g l = (l.n ≤ length l.file) × (length l.file ≡ length l.initial.file)

abbrev pub decreases-loop-n : goal.decreases-loop-n
decreases-loop-n g l = length l.file - l.n
