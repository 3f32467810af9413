-- `chain::links::numbers` meets its contract. Assumes nothing.
use Rattle.std.proofs.Common.{rules}
use Rattle.model.specs.State.{nobody}
use Rattle.chain.specs.Computed.{number_at, numbers_of}
use Rattle.chain.proofs.Arrays.{array_made}
use Rattle.chain.proofs.links.numbers.Goals as goal

pub returns : goal.returns
unfolding numbers_of number_at
returns c =
    array_made (number_at c.args.tasks) c.from_fn.result c.from_fn.ensures.items.long (λ i l. let at = (c.from_fn.ensures.items.at i nobody l).2 in search rules)
