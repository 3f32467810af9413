-- `events::locks::lock_refusal` meets its contract. A return for each test. Assumes nothing.
use Rattle.std.proofs.Common.{rules}
use mathlib.Core.Path.{sym, ◌∙◌}
use borrow.Author.Tests.{eq-eqb, ne_eqb}
use Rattle.laws.specs.Tests.{first_of}
use Rattle.model.specs.State.{declares}
use Rattle.model.specs.Step.{ends_at}
use Rattle.events.proofs.Refusals.{last_told, stall_acts, lock_stalled}
use Rattle.events.proofs.locks.lock_refusal.Goals as goal

pub returns-then-not-in_set : goal.returns-then-not-in_set
unfolding first_of declares ends_at
returns-then-not-in_set c =
    rw (c.requires.t_value.0, c.requires.t_value.1, ← c.requires.task_value.0, ← c.requires.task_value.1, sym c.in_set.ensures ∙ c.if-not-in_set.true)

pub returns-in_err-stall : goal.returns-in_err-stall
unfolding first_of declares ends_at
returns-in_err-stall c =
    search (rules, lock_stalled _ _ c.stall.ensures _ c.in_err-stall.was _ _ _ c.requires.t_value.0 c.requires.t_value.1 c.requires.task_value.0 (rw (← c.requires.task_value.0) (sym c.in_set.ensures ∙ c.if-not-in_set.false)))

pub returns-then-owner_no-t : goal.returns-then-owner_no-t
unfolding first_of declares ends_at
returns-then-owner_no-t c =
    let acts = stall_acts c.args.task _ c.stall.ensures _ c.in_ok-stall.was in
    rw (c.requires.t_value.0, c.requires.t_value.1, ← c.requires.task_value.0, ← c.requires.task_value.1, sym c.in_set.ensures ∙ c.if-not-in_set.false, acts.0, acts.1, acts.2, eq-eqb _ _ (sym c.owner_no.ensures ∙ c.if-owner_no-t.true))

pub returns-in-None : goal.returns-in-None
unfolding first_of declares ends_at
returns-in-None c =
    let acts = stall_acts c.args.task _ c.stall.ensures _ c.in_ok-stall.was in
    rw (c.requires.t_value.0, c.requires.t_value.1, ← c.requires.task_value.0, ← c.requires.task_value.1, sym c.in_set.ensures ∙ c.if-not-in_set.false, acts.0, acts.1, acts.2, ne_eqb _ _ (λ e. c.if-owner_no-t.false (c.owner_no.ensures ∙ e)), c.in-None.is)

pub returns-in-Some : goal.returns-in-Some
unfolding first_of declares ends_at
returns-in-Some c =
    let acts = stall_acts c.args.task _ c.stall.ensures _ c.in_ok-stall.was in
    rw (c.requires.t_value.0, c.requires.t_value.1, ← c.requires.task_value.0, ← c.requires.task_value.1, sym c.in_set.ensures ∙ c.if-not-in_set.false, acts.0, acts.1, acts.2, ne_eqb _ _ (λ e. c.if-owner_no-t.false (c.owner_no.ensures ∙ e)), c.in-Some.is)
    (last_told _ _ _ _ c.refused_if.ensures c.closes.ensures)
