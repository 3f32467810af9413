-- `listing::writer::Writer::put_end` meets its contract. Assumes nothing.
use Rattle.lent_bytes.specs.Text.{bytes}
use Rattle.listing.specs.Text.{newline}
use Rattle.listing.specs.Listing.{end_lines}
use Rattle.listing.proofs.Writing.{writes_then}
use Rattle.listing.proofs.writer.Writer.put_end.Goals as goal

pub returns : goal.returns
unfolding end_lines newline bytes
returns c =
    writes_then (writes_then (writes_then c.put_named.ensures c.put_text.ensures) c.put_servers.ensures) c.put_tasks.ensures
