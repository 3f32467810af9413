-- `listing::writer::Writer::put_named` meets its contract. Assumes nothing.
use Rattle.listing.proofs.Writing.{writes_then}
use Rattle.listing.proofs.writer.Writer.put_named.Goals as goal

pub returns : goal.returns
returns c = writes_then c.put_text.ensures c.put_field.ensures
