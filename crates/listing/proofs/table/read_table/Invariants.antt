-- The loop keeps that the part of the table that is read is `Begun`. Assumes nothing.
use mathlib.Core.Path.{◌≡◌}
use Rattle.listing.specs.Computed.{Begun}
use Rattle.listing.proofs.table.read_table.Given as goal

abbrev pub invariant-loop-k : goal.invariant-loop-k
invariant-loop-k l = record { begun : Begun l.file l.table l.place.at l.k; same_tasks : l.table.tasks ≡ l.initial.table.tasks }
