-- `replay::main` is safe and ends, and the buffer that it lends is long enough for the listing of every file that it can read. Assumes nothing.
use mathlib.Core.Path.{◌≡◌, sym}
use mathlib.Core.List.{List}
use Prim.Native.Nat.{ℕ, ◌≤◌}
use native.Mathlib.Omega.{arith}
use lib.ListN.{length, take}
use lib.Seq.{length-take-le}
use Rattle.listing.specs.Replay.{room, file_bytes, text_bytes, short_file, short_text_bytes}
use Rattle.listing.proofs.Answers.{buffers_enough, short_enough}
use Rattle.replay.proofs.main.Goals as goal

-- what was read: the first n bytes of the buffer
module _ (n : ℕ) (file : List ℕ) (w : n ≤ length file) where
  read_long : n ≡ length (take n file)
  read_long = sym (length-take-le n file w)

  room_short : (out : List ℕ) → n ≤ short_file → short_text_bytes ≡ length out → room (length (take n file)) ≤ length out
  room_short out s l = omega (arith, short_enough (length (take n file)) (omega (arith, read_long)))

  room_whole : (out : List ℕ) → length file ≡ file_bytes → text_bytes ≡ length out → room (length (take n file)) ≤ length out
  room_whole out s l = omega (arith, buffers_enough (length (take n file)) (omega (arith, read_long, w)))

pub print-requires : goal.print-requires
unfolding room
print-requires c = room_short _ _ (c.in-Ok.ensures) _ (omega arith) c.short_text_buffer.ensures.long

pub print-requires-else-n-le-SHORT_FILE : goal.print-requires-else-n-le-SHORT_FILE
unfolding room
print-requires-else-n-le-SHORT_FILE c =
    let long : length c.read_all.new.file ≡ file_bytes = omega (arith, c.read_all.auto.file, c.file_buffer-file.ensures.long) in
    room_whole _ _ (c.in-Ok.ensures) _ long c.text_buffer.ensures.long
