-- `chain::links::owners` meets its contract. Assumes nothing.
use Rattle.std.proofs.Common.{rules}
use Rattle.model.specs.State.{nobody, owner_of}
use Rattle.chain.specs.Arrays.{owners_of}
use Rattle.chain.proofs.Arrays.{tasks_made}
use Rattle.chain.proofs.links.owners.Goals as goal

pub returns : goal.returns
unfolding owners_of
returns c =
    tasks_made (owner_of c.args.st) c.from_fn.result c.from_fn.ensures.items.long (λ i l. let at = (c.from_fn.ensures.items.at i (record { 0 = nobody }) l).2 in search rules)
