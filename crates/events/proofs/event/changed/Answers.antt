-- `events::event::changed` meets its contract. Assumes nothing.
use Rattle.model.specs.declared.Event.TheVariants.{Dispatch, Preempt}
use Rattle.events.specs.Changes.{change_of, phased_change}
use Rattle.events.proofs.Clear.{clear_grounds}
use Rattle.events.proofs.event.changed.Goals as goal

pub phased-requires : goal.phased-requires
unfolding change_of phased_change
phased-requires c =
    (clear_grounds _ (Dispatch _) (rw c.in-Dispatch.is at c.requires)).0

pub phased-requires-in-Preempt : goal.phased-requires-in-Preempt
unfolding change_of phased_change
phased-requires-in-Preempt c =
    (clear_grounds _ (Preempt _) (rw c.in-Preempt.is at c.requires)).0

pub returns-in-Dispatch : goal.returns-in-Dispatch
unfolding change_of phased_change
returns-in-Dispatch c =
    rw c.in-Dispatch.is c.phased.ensures

pub returns-in-Preempt : goal.returns-in-Preempt
unfolding change_of phased_change
returns-in-Preempt c =
    rw c.in-Preempt.is c.phased-in-Preempt.ensures
