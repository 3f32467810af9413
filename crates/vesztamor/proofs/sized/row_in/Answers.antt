-- `vesztamor::sized::row_in` meets its contract. Assumes nothing.
use mathlib.Core.Path.{◌∙◌}
use native.Mathlib.Omega.{arith}
use Rattle.vesztamor.proofs.Lines.{sized_least, row_within, row_yes, row_no}
use Rattle.vesztamor.proofs.sized.row_in.Goals as goal

pub two_bytes-requires : goal.two_bytes-requires
two_bytes-requires g c = omega (arith, sized_least _ _ _ c.requires, g.met.R.Row.sizes)

pub read-requires : goal.read-requires
read-requires g c = rw (c.HEADER.ensures, c.SIZE.ensures) (row_within _ _ _ _ c.requires (omega arith))

pub returns-then-i-from : goal.returns-then-i-from
returns-then-i-from g c = rw (c.HEADER.ensures, c.SIZE.ensures) at c.read.ensures ∙ row_yes _ _ _ _ _ _ (omega arith)

pub returns-else-i-from : goal.returns-else-i-from
returns-else-i-from g c = c.nothing.ensures ∙ row_no _ _ _ g.R.Row.read_at _ _ (omega arith)
