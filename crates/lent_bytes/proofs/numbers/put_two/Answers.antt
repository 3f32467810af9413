-- `lent_bytes::numbers::put_two` meets its contract. Assumes nothing.
use mathlib.Core.Path.{ap, ◌∙◌}
use Rattle.lent_bytes.specs.Writing.{stored}
use Rattle.lent_bytes.proofs.Endian.{two_written}
use Rattle.lent_bytes.proofs.numbers.put_two.Goals as goal

pub returns : goal.returns
returns c = c.put_part.ensures ∙ ap (stored c.args.bytes.now c.args.at) (c.to_le_bytes.ensures ∙ two_written c.args.n c.ranges.n.fits)
