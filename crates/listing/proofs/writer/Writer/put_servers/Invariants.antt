-- What the loop keeps. Assumes nothing.
use Prim.Native.Nat.{◌*◌}
use Rattle.laws.specs.Loops.{join_to}
use Rattle.listing.specs.Text.{server_line_most}
use Rattle.listing.specs.Listing.{server_line}
use Rattle.listing.specs.Writer.{Writes}
use Rattle.listing.proofs.writer.Writer.put_servers.Given as goal

abbrev pub invariant-loop-s : goal.invariant-loop-s
invariant-loop-s l = Writes (server_line_most * l.s) l.initial.self (join_to l.s (server_line l.fn.st)) l.self
