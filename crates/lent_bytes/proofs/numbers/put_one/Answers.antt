-- `lent_bytes::numbers::put_one` meets its contract. Assumes nothing.
use mathlib.Core.Path.{refl}
use Rattle.lent_bytes.specs.Writing.{stored}
use Rattle.lent_bytes.specs.Numbers.{one}
use Rattle.lent_bytes.proofs.numbers.put_one.Goals as goal

pub returns : goal.returns
unfolding stored one
returns c = refl
