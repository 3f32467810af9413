-- `chain::walk::chain_end` meets its contract. Assumes nothing.
use Rattle.chain.proofs.Arrays.{owners_read, walk_end}
use Rattle.chain.proofs.walk.chain_end.Goals as goal

pub returns : goal.returns
returns c =
    let e =
    walk_end _ _ _ (owners_read _ _ _ c.owners.ensures c.numbers-held.ensures) c.wanted-wants.ensures
    _ _ _ c.links_by-links.ensures c.end_of.ensures in
    λ i. record { 0 = e i }
