-- `chain::servers::running_for` meets its contract. Assumes nothing.
use Rattle.std.proofs.Common.{rules}
use Rattle.model.specs.State.{nobody}
use Rattle.chain.specs.Arrays.{on_at, on_by}
use Rattle.chain.proofs.Arrays.{tasks_made}
use Rattle.chain.proofs.servers.running_for.Goals as goal

pub returns : goal.returns
unfolding on_by
returns c =
    tasks_made
    (on_at c.args.servers c.args.count c.args.ends)
    c.from_fn.result
    c.from_fn.ensures.items.long
    (λ i l. let at = (c.from_fn.ensures.items.at i (record { 0 = nobody }) l).2 in search rules)
