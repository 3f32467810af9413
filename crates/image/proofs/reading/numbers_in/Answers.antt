-- `image::reading::numbers_in` meets its contract. Assumes nothing.
use borrow.Author.Rules.{rules}
use Rattle.image.specs.Decoded.{entry_in, entries_in}
use Rattle.image.proofs.Chains.{made_same}
use Rattle.image.proofs.reading.numbers_in.Goals as goal

pub returns : goal.returns
unfolding entries_in entry_in
returns c = made_same 16 _ 0 _ (λ i y q k. search rules) _ c.from_fn.ensures.items
