-- `image::testing::tasks_fit` meets its contract. Assumes nothing.
use Rattle.std.proofs.lemmas.Iterator.{YieldsList-from_range}
use mathlib.Core.Path.{refl, ap, ◌∙◌}
use native.Mathlib.Omega.{arith}
use borrow.Author.Rules.{rules}
use Rattle.image.specs.Layout.{used}
use Rattle.image.specs.Decoded.{task_entries_fit}
use Rattle.image.proofs.Chains.{all_through}
use Rattle.image.proofs.testing.tasks_fit.Goals as goal

pub returns : goal.returns
unfolding task_entries_fit
returns c =
    all_through _ _ c.used.result _ _ _ (c.used.ensures ∙ ap used c.two_bytes.ensures) (YieldsList-from_range 0 c.used.result c.used.result refl (omega arith)) c.all.ensures.ran
    (λ i b q k. search rules)
