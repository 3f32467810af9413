-- `chain::walk::chain_ends` meets its contract. Assumes nothing.
use mathlib.Core.Path.{◌∙◌}
use Rattle.chain.proofs.Arrays.{owners_read, ends_are}
use Rattle.chain.proofs.walk.chain_ends.Goals as goal

pub returns : goal.returns
returns c =
    c.ends_by.ensures
    ∙ ends_are _ _ _ (owners_read _ _ _ c.owners.ensures c.numbers-held.ensures) c.wanted-wants.ensures
