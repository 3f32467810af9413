-- `lent_bytes::text::put_number` meets its contract. Assumes nothing.
use Rattle.lent_bytes.specs.Text.{decimal}
use Rattle.lent_bytes.proofs.text.put_number.Goals as goal

pub returns : goal.returns
unfolding decimal
returns c =
    c.put_digits.ensures
