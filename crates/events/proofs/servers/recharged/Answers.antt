-- `events::servers::recharged` meets its contract. Assumes nothing.
use mathlib.Core.Path.{◌∙◌}
use Rattle.laws.proofs.Count.{bit_byte}
use Rattle.model.specs.declared.Event.TheVariants.{Recharge}
use Rattle.model.proofs.Chain.{here_below}
use Rattle.chain.proofs.Arrays.{end_below}
use Rattle.events.proofs.Clear.{clear_grounds, deadline_fits_lem}
use Rattle.events.proofs.Changes.{recharged_does}
use Rattle.events.proofs.servers.recharged.Goals as goal

pub bounds-st-i : goal.bounds-st-i
bounds-st-i c =
    here_below _ _ (clear_grounds _ (Recharge _) c.requires).0

pub bounds-ends-i : goal.bounds-ends-i
bounds-ends-i c =
    here_below _ _ (clear_grounds _ (Recharge _) c.requires).0

pub bounds-st-end : goal.bounds-st-end
bounds-st-end c =
    end_below _ _ _ c.chain_ends-ends.ensures (here_below _ _ (clear_grounds _ (Recharge _) c.requires).0)

pub refilled-requires : goal.refilled-requires
refilled-requires c =
    deadline_fits_lem _ c.requires.is_sound _ (clear_grounds _ (Recharge _) c.requires).0

pub bounds-st-i-2 : goal.bounds-st-i-2
bounds-st-i-2 c =
    here_below _ _ (clear_grounds _ (Recharge _) c.requires).0

pub bounds-st-i-3 : goal.bounds-st-i-3
bounds-st-i-3 c =
    here_below _ _ (clear_grounds _ (Recharge _) c.requires).0

pub returns : goal.returns
returns c =
    recharged_does _ _ _ _ _ _ _ (here_below _ _ (clear_grounds _ (Recharge _) c.requires).0) c.chain_ends-ends.ensures c.recharged_phase-phase.ensures c.refilled.ensures c.is_active.ensures (c.from.ensures ∙ bit_byte _)
