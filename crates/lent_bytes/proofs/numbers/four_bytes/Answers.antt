-- `lent_bytes::numbers::four_bytes` meets its contract. Assumes nothing.
use mathlib.Core.Path.{◌∙◌}
use Rattle.lent_bytes.proofs.Endian.{four_read}
use Rattle.lent_bytes.proofs.numbers.four_bytes.Goals as goal

pub returns : goal.returns
returns c = c.from_le_bytes.ensures ∙ four_read c.args.bytes.now c.args.at
