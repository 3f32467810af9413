-- `chain::servers::budgets` meets its contract. Assumes nothing.
use Rattle.std.proofs.Common.{rules}
use Rattle.laws.proofs.Made.{made_each}
use Rattle.chain.specs.Arrays.{budget_in, budgets_of}
use Rattle.chain.proofs.servers.budgets.Goals as goal

pub returns : goal.returns
unfolding budgets_of
returns c =
    made_each 16 (budget_in c.args.servers c.args.count) 0 c.from_fn.result c.from_fn.ensures.items.long (λ i l. let at = (c.from_fn.ensures.items.at i 0 l).2 in search rules)
