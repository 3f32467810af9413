-- What the loop keeps. Assumes nothing.
use Rattle.std.proofs.Common.{◌≡◌}
use Rattle.laws.specs.Loops.{fold_to}
use Rattle.bound_text.specs.Lines.{no_line}
use Rattle.bound_text.specs.Readings.{no_reading, taken_at}
use Rattle.bound_text.proofs.read.read.Given as goal

abbrev pub invariant-loop-byte : goal.invariant-loop-byte
invariant-loop-byte l = l.state ≡ fold_to l.byte-index (taken_at l.text) (record { reading = no_reading; line = no_line })
