-- `events::servers::turned` meets its contract. Assumes nothing.
use Rattle.model.proofs.Chain.{here_below}
use Rattle.events.proofs.Clear.{turn_here, turn_timely}
use Rattle.events.proofs.Changes.{turned_does}
use Rattle.events.proofs.servers.turned.Goals as goal

pub turned_servers-turned-requires : goal.turned_servers-turned-requires
turned_servers-turned-requires c =
    record { ends_value = c.chain_ends-ends.ensures; by_index = turn_timely c.args.turn _ c.requires.is_sound }

pub bounds-st-i : goal.bounds-st-i
bounds-st-i c =
    here_below _ _ (turn_here c.args.turn _ _ c.requires)

pub returns : goal.returns
returns c =
    turned_does c.args.turn _ _ _ _ _ _ c.requires c.chain_ends-ends.ensures c.turned_servers-turned.ensures c.mode_after.ensures c.with_mode.ensures
