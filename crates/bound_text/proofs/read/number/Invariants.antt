-- What the loop keeps. Assumes nothing.
use Rattle.std.proofs.Common.{◌≡◌}
use Rattle.laws.specs.Loops.{fold_to}
use Rattle.bound_text.specs.Lines.{no_line}
use Rattle.bound_text.specs.Readings.{byte_at}
use Rattle.bound_text.proofs.read.number.Given as goal

abbrev pub invariant-loop-byte : goal.invariant-loop-byte
invariant-loop-byte l = l.line ≡ fold_to l.byte-index (byte_at l.text) no_line
