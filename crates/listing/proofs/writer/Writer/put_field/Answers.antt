-- `listing::writer::Writer::put_field` meets its contract. Assumes nothing.
use Rattle.lent_bytes.specs.Text.{bytes}
use Rattle.listing.specs.Text.{field}
use Rattle.listing.proofs.Writing.{writes_then}
use Rattle.listing.proofs.writer.Writer.put_field.Goals as goal

pub returns : goal.returns
unfolding field bytes
returns c = writes_then c.put_text.ensures c.put_number.ensures
