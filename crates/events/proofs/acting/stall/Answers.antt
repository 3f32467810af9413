-- `events::acting::stall` meets its contract. A return for each mode. Assumes nothing.
use Rattle.laws.specs.Tests.{first_of}
use Rattle.events.proofs.Refusals.{last_told, is_none_not}
use Rattle.events.proofs.acting.stall.Goals as goal

pub returns-in-Suspended : goal.returns-in-Suspended
unfolding first_of
returns-in-Suspended c =
    rw c.in-Suspended.is

pub returns-in-Ready : goal.returns-in-Ready
unfolding first_of
returns-in-Ready c =
    rw c.in-Ready.is (last_told _ _ _ _ c.refused_if.ensures (is_none_not _ _ c.is_none.ensures))

pub returns-in-Waiting : goal.returns-in-Waiting
unfolding first_of
returns-in-Waiting c =
    rw c.in-Waiting.is
