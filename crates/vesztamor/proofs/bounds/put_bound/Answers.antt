-- `vesztamor::bounds::put_bound` meets its contract. Assumes nothing.
use mathlib.Core.Path.{refl, sym, ◌∙◌}
use Rattle.lent_bytes.proofs.Writing.{stored_whole}
use Rattle.lent_bytes.proofs.Codec.{four_long}
use Rattle.lent_bytes.proofs.Parts.{first, next}
use Rattle.vesztamor.specs.Exported.{bound_bytes}
use Rattle.vesztamor.proofs.bounds.put_bound.Goals as goal

pub returns : goal.returns
unfolding bound_bytes
returns c =
    let w0 = first c.put_four.ensures (four_long _) in
    let w1 = next w0 _ _ c.put_four-2.ensures (four_long _) refl in
    let w2 = next w1 _ _ c.put_four-3.ensures (four_long _) refl in
    w2.done ∙ stored_whole _ _ (w2.long ∙ sym c.requires)
