-- `image::writing::put_numbers` meets its contract. Assumes nothing.
use Rattle.image.specs.Encoded.{entries, entry_bytes}
use Rattle.lent_bytes.proofs.Codec.{two_long}
use Rattle.lent_bytes.proofs.Parts.{filled_none, filled_more, filled_done}
use Rattle.image.proofs.writing.put_numbers.Goals as goal

pub loop-i-init : goal.loop-i-init
unfolding entries entry_bytes
loop-i-init c =
    filled_none _ _ _ _

pub loop-i-preserved : goal.loop-i-preserved
unfolding entries entry_bytes
loop-i-preserved c =
    filled_more 2 (λ j. two_long _) c.loop-i.invariant c.loop-i-test.true _ c.put_two.ensures

pub returns : goal.returns
unfolding entries entry_bytes
returns c =
    filled_done c.loop-i.invariant c.loop-i-test.false
