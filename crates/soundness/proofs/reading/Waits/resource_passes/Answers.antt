-- `soundness::reading::Waits::resource_passes` meets its contract. Assumes nothing.
use mathlib.Core.Path.{sym, ◌∙◌}
use Rattle.model.specs.Sound.{if_present}
use Rattle.model.specs.State.{present}
use Rattle.soundness.proofs.Turns.{resource_read}
use Rattle.soundness.proofs.reading.Waits.resource_passes.Goals as goal

pub returns-else-not-in_use : goal.returns-else-not-in_use
unfolding if_present present
returns-else-not-in_use c =
    rw (sym c.in_use.ensures ∙ c.if-not-in_use.false)
    (resource_read _ _ _ _ _ c.requires c.args.self.now.reading.owners_read c.args.self.now.wants_read c.resource_passes.ensures)
