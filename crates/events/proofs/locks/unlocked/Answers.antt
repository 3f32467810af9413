-- `events::locks::unlocked` meets its contract. Assumes nothing.
use mathlib.Core.Path.{refl}
use native.Mathlib.Omega.{arith}
use Rattle.events.proofs.Clear.{unlock_below, unlock_present, unlock_stack, unlock_queue, heir_below, heir_room}
use Rattle.events.proofs.Changes.{freed_does, passed_does}
use Rattle.events.proofs.locks.unlocked.Goals as goal

pub bounds-st-i : goal.bounds-st-i
bounds-st-i c =
    unlock_below _ _ _ c.requires

pub bounds-st-j : goal.bounds-st-j
bounds-st-j c =
    unlock_present _ _ _ c.requires

pub popped-popped-requires : goal.popped-popped-requires
popped-popped-requires c =
    unlock_stack _ _ _ c.requires

pub returns-then-resource-eq0 : goal.returns-then-resource-eq0
returns-then-resource-eq0 c =
    freed_does _ _ _ _ c.executor_in-acting.ensures _ _ _ c.if-resource-eq0.true c.popped-popped.ensures c.with_owner.ensures c.chain_ends.ensures

pub bounds-st-h : goal.bounds-st-h
bounds-st-h c =
    heir_below _ _ _ c.requires (omega (arith, c.if-resource-eq0.false))

pub pushed-requires : goal.pushed-requires
pushed-requires c =
    rw c.with_mode.ensures (heir_room _ _ _ c.requires (omega (arith, c.if-resource-eq0.false)))

pub dequeued-requires : goal.dequeued-requires
dequeued-requires c =
    unlock_queue _ _ _ c.requires (omega (arith, c.if-resource-eq0.false))

pub returns : goal.returns
returns c =
    passed_does _ _ _ _ _ _ _ _ _ _ _ c.executor_in-acting.ensures (omega (arith, c.if-resource-eq0.false)) refl c.popped-popped.ensures c.with_mode.ensures c.pushed.ensures c.dequeued.ensures c.with_owner-2.ensures c.chain_ends-2.ensures
