-- `events::locks::locked` meets its contract. Assumes nothing.
use mathlib.Core.Path.{refl, sym, ap, ◌∙◌}
use mathlib.Core.Bool.{not}
use Rattle.chain.proofs.Arrays.{end_served, end_below}
use Rattle.events.proofs.Clear.{lock_below, lock_present, lock_room, lock_queue}
use Rattle.events.proofs.Changes.{granted_does, queued_does, rested_no, rested_yes}
use Rattle.events.proofs.locks.locked.Goals as goal

pub bounds-st-i : goal.bounds-st-i
bounds-st-i c =
    lock_below _ _ _ c.requires

pub bounds-st-j : goal.bounds-st-j
bounds-st-j c =
    lock_present _ _ _ c.requires

pub pushed-requires : goal.pushed-requires
pushed-requires c =
    lock_room _ _ _ c.requires

pub returns-then-is_none : goal.returns-then-is_none
returns-then-is_none c =
    granted_does _ _ _ _ c.executor_in-acting.ensures _ _ _ (c.is_none.ensures ∙ ap not c.if-is_none.true) c.pushed.ensures c.with_owner.ensures c.chain_ends.ensures

pub enqueued-requires : goal.enqueued-requires
enqueued-requires c =
    lock_queue _ _ _ c.requires (c.is_none.ensures ∙ ap not c.if-is_none.false)

pub bounds-st-end : goal.bounds-st-end
bounds-st-end c =
    end_below _ _ _ c.chain_ends-ends.ensures (lock_below _ _ _ c.requires)

pub returns-then-is_suspended : goal.returns-then-is_suspended
returns-then-is_suspended c =
    let below = lock_below _ _ _ c.requires in
    queued_does _ _ _ _ c.executor_in-acting.ensures _ _ _ _ _ below (c.is_none.ensures ∙ ap not c.if-is_none.false) c.with_mode.ensures c.enqueued.ensures c.chain_ends-ends.ensures refl
    (rested_yes _ _ _ (end_served _ _ _ c.chain_ends-ends.ensures below) _ (sym c.is_suspended.ensures ∙ c.if-is_suspended.true) c.turned_servers-turned.ensures)

pub returns-else-is_suspended : goal.returns-else-is_suspended
returns-else-is_suspended c =
    let below = lock_below _ _ _ c.requires in
    queued_does _ _ _ _ c.executor_in-acting.ensures _ _ _ _ _ below (c.is_none.ensures ∙ ap not c.if-is_none.false) c.with_mode.ensures c.enqueued.ensures c.chain_ends-ends.ensures refl
    (rested_no _ _ _ (end_served _ _ _ c.chain_ends-ends.ensures below) (sym c.is_suspended.ensures ∙ c.if-is_suspended.false))
