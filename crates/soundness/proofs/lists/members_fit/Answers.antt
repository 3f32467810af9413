-- `soundness::lists::members_fit` meets its contract. Assumes nothing.
use Rattle.std.proofs.Common.{rules}
use borrow.Author.Tests.{le-leb, tests}
use Rattle.laws.proofs.All.{all_checked}
use Rattle.soundness.specs.Computed.{member_at, members_fit}
use Rattle.soundness.proofs.lists.members_fit.Goals as goal

pub returns-then-count-le16 : goal.returns-then-count-le16
unfolding members_fit
returns-then-count-le16 c =
    rw (le-leb _ _ c.if-count-le16.true)
    (all_checked
    c.args.count
    (member_at c.args.xs.now c.args.set c.args.owners.now c.args.holder)
    c.all.ensures.ran
    (λ x q k. search (rules, tests))
    (λ x q k. search (rules, tests)))
