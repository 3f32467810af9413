-- The loop keeps that the first i numbers are written. Assumes nothing.
use Rattle.lent_bytes.specs.Numbers.{two}
use Rattle.image.specs.Encoded.{entry_bytes}
use Rattle.lent_bytes.proofs.Parts.{Filled}
use Rattle.image.proofs.writing.put_numbers.Given as goal

abbrev pub invariant-loop-i : goal.invariant-loop-i
invariant-loop-i l = Filled 16 (entry_bytes two 0 l.numbers) l.initial.bytes l.at l.bytes l.i
