-- `replay::put_whole` meets its contract: a buffer with room is never too short, and the listing stands at its start. Assumes nothing.
use mathlib.Core.Path.{◌≡◌, refl, ◌∙◌}
use mathlib.Core.List.{List}
use Prim.Native.Nat.{ℕ, ◌≤◌}
use native.Mathlib.Omega.{arith}
use lib.ListN.{length, take, drop}
use lib.Seq.{take-append-le, take_all}
use Rattle.listing.specs.Listing.{listing}
use Rattle.listing.specs.Replay.{room, buffer_after}
use Rattle.listing.proofs.Lengths.{listing_fits}
use Rattle.listing.proofs.Answers.{has_room, buffer_is}
use Rattle.replay.proofs.put_whole.Goals as goal

module _ (file lent : List ℕ) (l : room (length file) ≤ length lent) where
  whole_text : (out : List ℕ) → out ≡ buffer_after file lent → take (length (listing file)) out ≡ listing file
  whole_text out b =
      rw (b, buffer_is file lent l)
      (take-append-le (length (listing file)) (listing file) (drop (length (listing file)) lent) (omega arith) ∙ take_all (length (listing file)) (listing file) (omega arith))

pub returns : goal.returns
returns c =
    let whole = c.replay.ensures.value ∙ has_room _ _ c.requires in
    let count : c.unwrap_or.result ≡ length (listing c.args.file.now) = c.unwrap_or.ensures ∙ rw whole refl in
    rw count (whole_text _ _ c.requires _ c.replay.ensures.text, omega (arith, listing_fits c.args.file.now))
