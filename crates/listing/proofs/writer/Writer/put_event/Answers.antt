-- `listing::writer::Writer::put_event` meets its contract. Assumes nothing.
use Rattle.lent_bytes.specs.Text.{bytes}
use Rattle.listing.specs.Text.{newline}
use Rattle.listing.specs.Listing.{event_line}
use Rattle.listing.proofs.Writing.{writes_then}
use Rattle.listing.proofs.writer.Writer.put_event.Goals as goal

pub returns : goal.returns
unfolding event_line newline bytes
returns c = writes_then (writes_then (writes_then c.put_number.ensures c.put_text.ensures) c.put_answer.ensures) c.put_text-2.ensures
