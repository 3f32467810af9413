-- `lent_bytes::numbers::two_bytes` meets its contract. Assumes nothing.
use mathlib.Core.Path.{◌∙◌}
use Rattle.lent_bytes.proofs.Endian.{two_read}
use Rattle.lent_bytes.proofs.numbers.two_bytes.Goals as goal

pub returns : goal.returns
returns c = c.from_le_bytes.ensures ∙ two_read c.args.bytes.now c.args.at
