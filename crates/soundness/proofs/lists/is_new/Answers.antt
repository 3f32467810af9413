-- `soundness::lists::is_new` meets its contract. Assumes nothing.
use Rattle.std.proofs.Common.{rules}
use Rattle.laws.proofs.All.{none_by}
use Rattle.soundness.specs.Computed.{other_at}
use Rattle.soundness.proofs.lists.is_new.Goals as goal

pub returns : goal.returns
unfolding other_at
returns c = none_by c.args.count c.args.xs.now c.args.x c.contains.result (search rules) c.contains.ensures.cases
