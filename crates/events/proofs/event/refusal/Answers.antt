-- `events::event::refusal` meets its contract. Assumes nothing.
use mathlib.Core.Path.{refl, sym, ◌∙◌}
use Rattle.laws.specs.Tests.{first_of}
use Rattle.model.specs.State.{here, present, executing}
use Rattle.events.proofs.Refusals.{unnamed, last_test}
use Rattle.events.proofs.event.refusal.Goals as goal

pub returns-then-not-names_in_use : goal.returns-then-not-names_in_use
unfolding first_of here present executing
returns-then-not-names_in_use c =
    unnamed c.args.st c.args.e (sym c.names_in_use.ensures ∙ c.if-not-names_in_use.true)

pub dispatch_refusal-requires : goal.dispatch_refusal-requires
unfolding first_of here present executing
dispatch_refusal-requires c =
    let used = sym c.names_in_use.ensures ∙ c.if-not-names_in_use.false in
    (rw c.in-Dispatch.is at used, refl)

pub recharge_refusal-requires : goal.recharge_refusal-requires
unfolding first_of here present executing
recharge_refusal-requires c =
    let used = sym c.names_in_use.ensures ∙ c.if-not-names_in_use.false in
    (rw c.in-Recharge.is at used, refl)

pub returns-then-not-in_use : goal.returns-then-not-in_use
unfolding first_of here present executing
returns-then-not-in_use c =
    let used = sym c.names_in_use.ensures ∙ c.if-not-names_in_use.false in
    rw (c.in-Lock.is, rw c.in-Lock.is at used, sym c.in_use.ensures ∙ c.if-not-in_use.true)

pub lock_refusal-requires : goal.lock_refusal-requires
unfolding first_of here present executing
lock_refusal-requires c =
    let used = sym c.names_in_use.ensures ∙ c.if-not-names_in_use.false in
    record { t_value = (rw c.in-Lock.is at used, sym c.in_use.ensures ∙ c.if-not-in_use.false); task_value = (refl, refl) }

pub returns-then-not-in_use-2 : goal.returns-then-not-in_use-2
unfolding first_of here present executing
returns-then-not-in_use-2 c =
    let used = sym c.names_in_use.ensures ∙ c.if-not-names_in_use.false in
    rw (c.in-Unlock.is, rw c.in-Unlock.is at used, sym c.in_use-in-Unlock.ensures ∙ c.if-not-in_use-2.true)

pub returns-in-Wake : goal.returns-in-Wake
unfolding first_of here present executing
returns-in-Wake c =
    let used = sym c.names_in_use.ensures ∙ c.if-not-names_in_use.false in
    rw (c.in-Wake.is, (rw c.in-Wake.is at used)) (last_test 5 _ _ _ c.wake_refusal.ensures refl)

pub returns-in-Suspend : goal.returns-in-Suspend
unfolding first_of here present executing
returns-in-Suspend c =
    let used = sym c.names_in_use.ensures ∙ c.if-not-names_in_use.false in
    rw (c.in-Suspend.is, (rw c.in-Suspend.is at used)) c.stall.ensures

pub returns-in-Preempt : goal.returns-in-Preempt
unfolding first_of here present executing
returns-in-Preempt c =
    let used = sym c.names_in_use.ensures ∙ c.if-not-names_in_use.false in
    rw (c.in-Preempt.is, (rw c.in-Preempt.is at used)) (last_test 9 _ _ _ c.preempt_refusal.ensures refl)

pub returns-else-not-in_use-2 : goal.returns-else-not-in_use-2
unfolding first_of here present executing
returns-else-not-in_use-2 c =
    let used = sym c.names_in_use.ensures ∙ c.if-not-names_in_use.false in
    rw c.in-Unlock.is (c.unlock_refusal.ensures c.args.st (rw c.in-Unlock.is at used) (sym c.in_use-in-Unlock.ensures ∙ c.if-not-in_use-2.false) refl refl)
