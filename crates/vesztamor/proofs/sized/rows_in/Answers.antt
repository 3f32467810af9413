-- `vesztamor::sized::rows_in` meets its contract. Assumes nothing.
use borrow.Author.Rules.{rules}
use Rattle.image.proofs.Chains.{made_same}
use Rattle.vesztamor.proofs.sized.rows_in.Goals as goal

pub returns : goal.returns
returns g c = made_same g.row.N _ _ _ (λ i y q k. search rules) _ c.from_fn.ensures.items
