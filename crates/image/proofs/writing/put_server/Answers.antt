-- `image::writing::put_server` meets its contract. Assumes nothing.
use mathlib.Core.Path.{refl}
use Rattle.image.specs.Encoded.{server_bytes}
use Rattle.lent_bytes.proofs.Codec.{one_long, four_long}
use Rattle.lent_bytes.proofs.Parts.{first, next}
use Rattle.image.proofs.writing.put_server.Goals as goal

pub returns : goal.returns
unfolding server_bytes
returns c =
    let w0 = first c.put_one.ensures (one_long _) in
    let w1 = next w0 _ _ c.put_four.ensures (four_long _) refl in
    let w2 = next w1 _ _ c.put_four-2.ensures (four_long _) refl in
    let w3 = next w2 _ _ c.put_four-3.ensures (four_long _) refl in
    let w4 = next w3 _ _ c.put_four-4.ensures (four_long _) refl in
    let w5 = next w4 _ _ c.put_four-5.ensures (four_long _) refl in
    let w6 = next w5 _ _ c.put_four-6.ensures (four_long _) refl in
    rw (← c.phase_tag.ensures) (next w6 _ _ c.put_four-7.ensures (four_long _) refl).done
