-- `step::step::attempted` meets its contract. Assumes nothing.
use mathlib.Core.Path.{sym, ap, ◌∙◌}
use mathlib.Core.Option.{some}
use Rattle.model.proofs.Refused.{refused_some}
use Rattle.events.proofs.Refusals.{passed_clear}
use Rattle.step.proofs.Steps.{attempt_refused, attempt_taken}
use Rattle.step.proofs.step.attempted.Goals as goal

pub returns : goal.returns
returns c = attempt_taken _ _ _ (passed_clear _ _ c.refusal.result _ c.refusal.ensures c.requires c.in_default.is) c.taken.ensures

pub returns-in-Err : goal.returns-in-Err
returns-in-Err c =
    attempt_refused _ _ _ c.from.result
    (refused_some _ c.refusal.result _ c.refusal.ensures c.in-Err.is ∙ ap some (sym c.from.ensures))
    c.refusing.ensures
