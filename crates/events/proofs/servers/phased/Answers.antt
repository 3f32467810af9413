-- `events::servers::phased` meets its contract. Assumes nothing.
use mathlib.Core.Path.{◌∙◌}
use Rattle.laws.proofs.Count.{bit_byte}
use Rattle.model.proofs.Chain.{here_below}
use Rattle.chain.proofs.Arrays.{end_below}
use Rattle.events.proofs.Changes.{phased_does}
use Rattle.events.proofs.servers.phased.Goals as goal

pub bounds-st-i : goal.bounds-st-i
bounds-st-i c =
    here_below _ _ c.requires

pub bounds-ends-i : goal.bounds-ends-i
bounds-ends-i c =
    here_below _ _ c.requires

pub bounds-st-end : goal.bounds-st-end
bounds-st-end c =
    end_below _ _ _ c.chain_ends-ends.ensures (here_below _ _ c.requires)

pub bounds-st-i-2 : goal.bounds-st-i-2
bounds-st-i-2 c =
    here_below _ _ c.requires

pub returns : goal.returns
returns c =
    phased_does _ _ _ _ _ _ _ (here_below _ _ c.requires) c.chain_ends-ends.ensures c.executor_in-executor.ensures (c.from.ensures ∙ bit_byte _) c.with_phase.ensures
