-- `listing::writer::Writer::put_answer` meets its contract where a number follows. Assumes nothing.
use native.Mathlib.Omega.{arith}
use Rattle.lent_bytes.specs.Text.{bytes}
use Rattle.listing.specs.Text.{spelled}
use Rattle.listing.proofs.Writing.{writes_then, writes_most}
use Rattle.listing.proofs.writer.Writer.put_answer.Goals as goal

pub returns-in-RefusedWaiting : goal.returns-in-RefusedWaiting
unfolding spelled bytes
returns-in-RefusedWaiting c = rw c.in-RefusedWaiting.is (writes_most (omega arith) (writes_then c.put_named-in-RefusedWaiting.ensures c.put_field.ensures))
