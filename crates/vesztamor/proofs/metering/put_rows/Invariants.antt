-- What the loop keeps. Assumes nothing.
use Rattle.lent_bytes.proofs.Parts.{Filled}
use Rattle.vesztamor.specs.Metering.{server_row_bytes}
use Rattle.vesztamor.proofs.metering.put_rows.Given as goal

abbrev pub invariant-loop-s : goal.invariant-loop-s
invariant-loop-s l = Filled l.n (server_row_bytes l.st) l.initial.bytes 0 l.bytes l.s
