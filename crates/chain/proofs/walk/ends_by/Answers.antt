-- `chain::walk::ends_by` meets its contract. Assumes nothing.
use Rattle.std.proofs.Common.{rules}
use Rattle.model.specs.State.{places, nobody}
use Rattle.chain.specs.Computed.{links_by, end_by, ends_by}
use Rattle.chain.proofs.Arrays.{tasks_made}
use Rattle.chain.proofs.walk.ends_by.Goals as goal

pub returns : goal.returns
unfolding ends_by
returns c =
    tasks_made
    (end_by places (links_by c.args.owners.now c.args.wants.now))
    c.from_fn.result
    c.from_fn.ensures.items.long
    (λ i l. let at = (c.from_fn.ensures.items.at i (record { 0 = nobody }) l).2 in search rules)
