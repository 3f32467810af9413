-- `soundness::sound::is_sound` meets its contract. Assumes nothing.
use mathlib.Core.Path.{sym, ◌∙◌}
use Rattle.model.specs.Sound.{sizes_fit}
use Rattle.model.proofs.Sound.{sizes_fact}
use Rattle.soundness.specs.Computed.{passes}
use Rattle.soundness.proofs.Same.{sound_by}
use Rattle.soundness.proofs.sound.is_sound.Goals as goal

pub returns-then-not-sizes_fit : goal.returns-then-not-sizes_fit
unfolding sizes_fit passes
returns-then-not-sizes_fit c =
    sound_by _ _ (simp (sym c.sizes_fit.ensures ∙ c.if-not-sizes_fit.true))

pub of-requires : goal.of-requires
unfolding sizes_fit
of-requires c = ((sizes_fact c.args.st).holds (sym c.sizes_fit.ensures ∙ c.if-not-sizes_fit.false)).0.1

pub returns : goal.returns
unfolding sizes_fit passes
returns c =
    sound_by _ _ (simp (sym c.sizes_fit.ensures ∙ c.if-not-sizes_fit.false) (rw c.of.ensures at c.passes.ensures))
