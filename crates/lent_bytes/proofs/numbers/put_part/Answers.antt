-- `lent_bytes::numbers::put_part` meets its contract. Assumes nothing.
use native.Mathlib.Omega.{arith}
use Rattle.lent_bytes.proofs.Writing.{stored_copied}
use Rattle.lent_bytes.proofs.numbers.put_part.Goals as goal

pub returns : goal.returns
returns c = stored_copied _ _ _ _ _ c.requires (omega arith) c.copy_from_slice.ensures.after
