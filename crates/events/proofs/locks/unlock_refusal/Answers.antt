-- `events::locks::unlock_refusal` meets its contract. A return for each test. Assumes nothing.
use Rattle.std.proofs.Common.{rules}
use mathlib.Core.Path.{sym, ap, ◌∙◌}
use mathlib.Core.Bool.{not}
use lib.Dec.{eqb}
use borrow.Author.Tests.{eq-eqb, ne_eqb}
use Rattle.laws.specs.Tests.{first_of}
use Rattle.model.specs.Step.{top_of}
use Rattle.events.proofs.Refusals.{last_told, stall_acts, unlock_stalled}
use Rattle.events.proofs.locks.unlock_refusal.Goals as goal

pub returns-in_err-stall : goal.returns-in_err-stall
unfolding first_of top_of
returns-in_err-stall c =
    λ st h p k x.
    search (rules, unlock_stalled _ _ c.stall.ensures _ c.in_err-stall.was st _ _ h p k)

pub returns-then-owner_no-t : goal.returns-then-owner_no-t
unfolding first_of top_of
returns-then-owner_no-t c =
    λ st h p k x.
    let acts = stall_acts c.args.task _ c.stall.ensures _ c.in_ok-stall.was in
    rw (h, p, ← k, ← x, acts.0, acts.1, acts.2, ne_eqb _ _ (λ e. c.if-owner_no-t.true (c.owner_no.ensures ∙ e)))

pub returns : goal.returns
unfolding first_of top_of
returns c =
    λ st h p k x.
    let acts = stall_acts c.args.task _ c.stall.ensures _ c.in_ok-stall.was in
    rw (h, p, ← k, ← x, acts.0, acts.1, acts.2, eq-eqb _ _ (sym c.owner_no.ensures ∙ c.if-owner_no-t.false))
    (last_told _ _ _ _ c.refused_if.ensures (ap (λ top. not (eqb top c.args.r)) c.top.ensures))
