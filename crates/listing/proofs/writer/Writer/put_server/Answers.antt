-- `listing::writer::Writer::put_server` meets its contract: its parts one after another. Assumes nothing.
use native.Mathlib.Omega.{arith}
use Rattle.lent_bytes.specs.Text.{bytes}
use Rattle.listing.specs.Text.{newline}
use Rattle.listing.proofs.Writing.{writes_then, writes_most}
use Rattle.listing.proofs.writer.Writer.put_server.Goals as goal

pub returns : goal.returns
unfolding newline bytes
returns c =
    writes_most (omega arith)
    (writes_then
    (writes_then
    (writes_then
    (writes_then
    (writes_then
    (writes_then (writes_then (writes_then c.put_named.ensures c.put_text.ensures) c.put_phase.ensures) c.put_field.ensures)
    c.put_field-2.ensures)
    c.put_field-3.ensures)
    c.put_field-4.ensures)
    c.put_field-5.ensures)
    c.put_text-2.ensures)
