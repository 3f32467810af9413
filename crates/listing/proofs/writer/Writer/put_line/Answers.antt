-- `listing::writer::Writer::put_line` meets its contract. Assumes nothing.
use native.Mathlib.Omega.{arith}
use Rattle.lent_bytes.specs.Text.{bytes}
use Rattle.listing.specs.Text.{newline}
use Rattle.listing.proofs.Writing.{writes_then, writes_most}
use Rattle.listing.proofs.writer.Writer.put_line.Goals as goal

pub returns : goal.returns
unfolding newline bytes
returns c = writes_most (omega arith) (writes_then (writes_then c.put_named.ensures c.put_field.ensures) c.put_text.ensures)
