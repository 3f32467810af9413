-- `image::reading::read` meets its contract. Assumes nothing.
use mathlib.Core.Path.{sym, ◌∙◌}
use Rattle.image.proofs.Image.{image_long, read_held, read_refused}
use Rattle.image.proofs.reading.read.Goals as goal

pub state_in-requires : goal.state_in-requires
state_in-requires c = image_long _ (sym c.is_image.ensures ∙ c.if-not-is_image.false)

pub returns : goal.returns
returns c = read_held _ _ (sym c.is_image.ensures ∙ c.if-not-is_image.false) c.state_in.ensures

pub returns-then-not-is_image : goal.returns-then-not-is_image
returns-then-not-is_image c = read_refused _ (sym c.is_image.ensures ∙ c.if-not-is_image.true)
