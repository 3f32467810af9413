-- `chain::links::wanted` meets its contract. Assumes nothing.
use Rattle.std.proofs.Common.{rules}
use Rattle.model.specs.State.{nobody}
use Rattle.chain.specs.Arrays.{wanted, wanted_of}
use Rattle.chain.proofs.Arrays.{array_made}
use Rattle.chain.proofs.links.wanted.Goals as goal

pub returns : goal.returns
unfolding wanted_of
returns c =
    array_made (wanted c.args.st) c.from_fn.result c.from_fn.ensures.items.long (λ i l. let at = (c.from_fn.ensures.items.at i nobody l).2 in search rules)
