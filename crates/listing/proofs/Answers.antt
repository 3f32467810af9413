-- What `replay` answers and leaves, from what its parts wrote. Assumes nothing.
use mathlib.Core.Path.{◌≡◌, refl, ap, ◌∙◌}
use mathlib.Core.Bool.{true, false}
use mathlib.Core.List.{List, ◌++◌}
use Prim.Native.Nat.{ℕ, ◌<◌, ◌≤◌}
use native.Mathlib.Omega.{arith}
use lib.Dec.{leb}
use lib.ListN.{length, drop}
use borrow.Author.Tests.{lt-ltb, le-ltb, le-leb, leb-true}
use Rattle.laws.proofs.Cases.{split}
use Rattle.lent_bytes.specs.Writing.{Wrote}
use Rattle.lent_bytes.proofs.Writing.{stored_first}
use Rattle.trace.specs.Reading.{items}
use Rattle.trace.specs.Order.{file_limit}
use Rattle.std.specs.Prelude.{Ok, Err}
use Rattle.listing.specs.Listing.{beginning, stop_line, listing}
use Rattle.listing.specs.Replay.{room, file_bytes, text_bytes, short_file, short_text_bytes, Replayed, replayed, buffer_after, said_replayed}
use Rattle.listing.specs.Computed.{text_from}
use Rattle.listing.proofs.Lengths.{listing_fits}

pub listing_long : (file : List ℕ) → file_limit < length file → stop_line 0 33 ≡ listing file
unfolding listing
listing_long file l = rw (lt-ltb _ _ l)

pub listing_read : (file : List ℕ) → length file ≤ file_limit → text_from file beginning 0 ≡ listing file
unfolding listing text_from items
listing_read file l = rw (le-ltb _ _ l)

-- what the contract says, in one
abbrev pub Answered : List ℕ → List ℕ → List ℕ → Replayed → Type 0
Answered file lent out r =
    record { value : r ≡ replayed file (length lent); text : out ≡ buffer_after file lent; says : said_replayed r ≡ said_replayed (replayed file (length lent)) }

module _ (file lent : List ℕ) where
  pub answered_short : leb (room (length file)) (length lent) ≡ false → Answered file lent lent (Err (record {}))
  unfolding replayed buffer_after
  answered_short e = rw e (record { value = refl; text = refl; says = refl })

  pub answered
      : {m end : ℕ} {out : List ℕ} (text : List ℕ) → leb (room (length file)) (length lent) ≡ true → text ≡ listing file → Wrote m lent 0 text out end
      → Answered file lent out (Ok end)
  unfolding replayed buffer_after
  answered {end = end} text e t w =
      let n : ◌≡◌ {A = Replayed} (Ok end) (Ok (length (listing file))) = ap Ok (w.ends ∙ (omega arith) ∙ ap length t) in
      rw e (record { value = n; text = w.holds ∙ rw t; says = ap said_replayed n })

  -- a buffer with room is never too short
  pub has_room : room (length file) ≤ length lent → replayed file (length lent) ≡ Ok (length (listing file))
  unfolding replayed
  has_room l = rw (le-leb (room (length file)) (length lent) l)

  -- what is written lies within the buffer
  pub written_fits : (n : ℕ) → ◌≡◌ {A = Replayed} (Ok n) (replayed file (length lent)) → n ≤ length lent
  unfolding replayed
  written_fits n e =
      split
      (leb (room (length file)) (length lent))
      (λ y.
      let w : ◌≡◌ {A = Replayed} (Ok n) (Ok (length (listing file))) = rw y at e in
      let h : n ≡ length (listing file) = cc in
      let l : room (length file) ≤ length lent = leb-true _ _ y in
      omega (arith, listing_fits file))
      (λ f.
      let w : ◌≡◌ {A = Replayed} (Ok n) (Err (record {})) = rw f at e in
      let z : ◌≡◌ {A = ℕ} 0 1 = cc in
      absurd (omega arith))

  -- the bytes at exit, in plain words: the whole text, then what stood there
  pub buffer_is : room (length file) ≤ length lent → buffer_after file lent ≡ listing file ++ drop (length (listing file)) lent
  unfolding buffer_after
  buffer_is l = rw (le-leb _ _ l) (stored_first lent (listing file) (omega (arith, listing_fits file)))

-- the buffer of a program is long enough for every file that fits its other buffer, and the short one for a short file
pub buffers_enough : (n : ℕ) → n ≤ file_bytes → room n ≤ text_bytes
unfolding room
buffers_enough n l = omega arith

pub short_enough : (n : ℕ) → n ≤ short_file → room n ≤ short_text_bytes
unfolding room
short_enough n l = omega arith
