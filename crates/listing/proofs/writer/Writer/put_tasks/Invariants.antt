-- What the loop keeps. Assumes nothing.
use Prim.Native.Nat.{◌*◌}
use Rattle.laws.specs.Loops.{join_to}
use Rattle.listing.specs.Text.{short_line_most}
use Rattle.listing.specs.Listing.{task_line}
use Rattle.listing.specs.Writer.{Writes}
use Rattle.listing.proofs.writer.Writer.put_tasks.Given as goal

abbrev pub invariant-loop-t : goal.invariant-loop-t
invariant-loop-t l = Writes (short_line_most * l.t) l.initial.self (join_to l.t (task_line l.fn.st)) l.self
