-- The first s of the lent rows that are written are the servers'. Assumes nothing.
use mathlib.Core.Path.{◌≡◌}
use Rattle.laws.specs.Loops.{set_to}
use Rattle.model.specs.Meter.{row_of}
use Rattle.meter.proofs.rows.fill.Given as goal

abbrev pub invariant-loop-s : goal.invariant-loop-s
invariant-loop-s l = l.written ≡ set_to l.s (row_of l.st) l.initial.written
