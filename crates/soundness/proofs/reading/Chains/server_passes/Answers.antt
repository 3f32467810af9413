-- `soundness::reading::Chains::server_passes` meets its contract. Assumes nothing.
use mathlib.Core.Path.{sym, ◌∙◌}
use Rattle.model.specs.Sound.{if_here}
use Rattle.model.specs.State.{here}
use Rattle.chain.proofs.Arrays.{end_below}
use Rattle.soundness.proofs.Turns.{server_fails, server_both}
use Rattle.soundness.proofs.reading.Chains.server_passes.Goals as goal

pub returns-then-not-in_use : goal.returns-then-not-in_use
unfolding if_here here
returns-then-not-in_use c = rw (sym c.in_use.ensures ∙ c.if-not-in_use.true)

pub bounds-self-end : goal.bounds-self-end
bounds-self-end c = end_below _ _ _ c.args.self.now.ends_read c.requires

pub bounds-st-end : goal.bounds-st-end
bounds-st-end c = end_below _ _ _ c.args.self.now.ends_read c.requires

pub returns-then-server_passes : goal.returns-then-server_passes
unfolding if_here here
returns-then-server_passes c =
    let self = c.args.self.now in
    rw (sym c.in_use.ensures ∙ c.if-not-in_use.false)
    (server_both _ _ _ _ _ _ c.requires self.waits.reading.owners_read self.waits.wants_read self.ends_read c.at_or_nobody-link.ensures _ c.server_passes.ensures
    _ _ self.runs_read c.executes_passes.ensures c.if-server_passes.true)

pub returns-else-server_passes : goal.returns-else-server_passes
unfolding if_here here
returns-else-server_passes c =
    let self = c.args.self.now in
    rw (sym c.in_use.ensures ∙ c.if-not-in_use.false)
    (c.if-server_passes.false
    ∙ sym
    (server_fails _ _ _ _ _ _ c.requires self.waits.reading.owners_read self.waits.wants_read self.ends_read c.at_or_nobody-link.ensures _ c.server_passes.ensures
    c.if-server_passes.false))
