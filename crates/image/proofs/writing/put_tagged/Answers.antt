-- `image::writing::put_tagged` meets its contract. Assumes nothing.
use mathlib.Core.Path.{refl}
use Rattle.image.specs.Encoded.{tagged_bytes}
use Rattle.lent_bytes.proofs.Codec.{one_long, two_long}
use Rattle.lent_bytes.proofs.Parts.{first, next}
use Rattle.image.proofs.writing.put_tagged.Goals as goal

pub returns : goal.returns
unfolding tagged_bytes
returns c = (next (first c.put_one.ensures (one_long _)) _ _ c.put_two.ensures (two_long _) refl).done
