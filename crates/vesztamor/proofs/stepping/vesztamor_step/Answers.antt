-- `vesztamor::stepping::vesztamor_step` meets its contract. Assumes nothing.
use mathlib.Core.Path.{sym, ap, ◌∙◌}
use Rattle.model.specs.Step.{stepped}
use Rattle.vesztamor.proofs.Held.{held}
use Rattle.vesztamor.proofs.Ways.{step_written}
use Rattle.vesztamor.proofs.stepping.vesztamor_step.Goals as goal

pub returns-clause-bytes : goal.returns-clause-bytes
returns-clause-bytes c =
    step_written _ _ _ _ _ (sym c.is_event.ensures ∙ c.if-not-is_event.false) _ (held _ _ c.in-Ok.ensures) _
    (c.step-outcome.ensures.value ∙ ap (stepped _) c.event_of-event.ensures)
    (sym c.is_refused.ensures ∙ c.if-is_refused.false)
    _ c.write.ensures.image
