-- `step::step::step` meets its contract. Assumes nothing.
use mathlib.Core.Path.{sym, ◌∙◌}
use Rattle.step.proofs.Steps.{step_unsound, step_sound}
use Rattle.step.proofs.step.step.Goals as goal

pub returns-then-not-is_sound : goal.returns-then-not-is_sound
returns-then-not-is_sound c = step_unsound _ _ _ (sym c.is_sound.ensures ∙ c.if-not-is_sound.true) c.refused.ensures

pub returns : goal.returns
returns c = step_sound _ _ _ (sym c.is_sound.ensures ∙ c.if-not-is_sound.false) c.attempted.ensures
