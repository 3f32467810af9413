-- `vesztamor::metering::put_row` meets its contract. Assumes nothing.
use mathlib.Core.Path.{refl}
use Rattle.lent_bytes.proofs.Codec.{one_long, four_long}
use Rattle.lent_bytes.proofs.Parts.{first, next}
use Rattle.vesztamor.specs.Metering.{row_bytes}
use Rattle.vesztamor.proofs.metering.put_row.Goals as goal

pub returns : goal.returns
unfolding row_bytes
returns c =
    let w0 = first c.put_one.ensures (one_long _) in
    let w1 = next w0 _ _ c.put_four.ensures (four_long _) refl in
    let w2 = next w1 _ _ c.put_four-2.ensures (four_long _) refl in
    let w3 = next w2 _ _ c.put_four-3.ensures (four_long _) refl in
    rw (← c.phase_tag.ensures) (next w3 _ _ c.put_four-4.ensures (four_long _) refl).done
