-- `bound::table::all_children_fit` meets its contract. Assumes nothing.
use Rattle.std.proofs.Common.{rules}
use Rattle.laws.proofs.All.{all_checked}
use Rattle.bound.specs.Table.{children_fit}
use Rattle.bound.proofs.table.all_children_fit.Goals as goal

pub returns : goal.returns
returns c =
    all_checked c.args.s.now.count (children_fit c.args.s.now) c.all.ensures.ran (λ x q k. search rules) (λ x q k. search rules)
