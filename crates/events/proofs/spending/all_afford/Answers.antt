-- `events::spending::all_afford` meets its contract. Assumes nothing.
use Rattle.std.proofs.Common.{rules}
use borrow.Author.Tests.{tests}
use Rattle.laws.proofs.All.{all_checked}
use Rattle.model.specs.Sound.{each, if_here}
use Rattle.model.specs.Step.{affords}
use Rattle.events.proofs.spending.all_afford.Goals as goal

pub returns : goal.returns
unfolding each
returns c =
    all_checked 16 (if_here c.args.st (affords c.args.st c.args.n)) c.all.ensures.ran (λ x q k. search (rules, tests)) (λ x q k. search (rules, tests))
