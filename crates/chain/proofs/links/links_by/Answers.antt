-- `chain::links::links_by` meets its contract. Assumes nothing.
use Rattle.std.proofs.Common.{rules}
use Rattle.model.specs.State.{nobody}
use Rattle.chain.specs.Computed.{link_at, links_by}
use Rattle.chain.proofs.Arrays.{array_made}
use Rattle.chain.proofs.links.links_by.Goals as goal

pub returns : goal.returns
unfolding links_by
returns c =
    array_made (link_at c.args.owners.now c.args.wants.now) c.from_fn.result c.from_fn.ensures.items.long (λ i l. let at = (c.from_fn.ensures.items.at i nobody l).2 in search rules)
