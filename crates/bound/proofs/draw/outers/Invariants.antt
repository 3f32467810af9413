-- What the loop keeps. Assumes nothing.
use Rattle.std.proofs.Common.{◌≡◌, ℕ, ◌<◌, ◌≤◌, length, get_or}
use Rattle.bound.specs.Table.{outer}
use Rattle.bound.specs.Computed.{no_bits, resources_of}
use Rattle.bound.proofs.draw.outers.Given as goal

abbrev pub invariant-loop-i : goal.invariant-loop-i
invariant-loop-i l = (l.i ≤ l.s.count) × (length l.drawn ≡ 12) × ((j : ℕ) → j < l.i → resources_of (get_or l.drawn j no_bits).bits ≡ outer l.s j)
