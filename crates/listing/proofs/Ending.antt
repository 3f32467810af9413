-- Laws of what is listed before the last lines: nothing, the same of a text by another name, and the last lines after it. Assumes nothing.
use mathlib.Core.Path.{◌≡◌, ◌∙◌}
use mathlib.Core.List.{List, []}
use Prim.Native.Nat.{ℕ, ◌≤◌}
use native.Mathlib.Omega.{arith}
use Rattle.listing.specs.declared.writer.Writer.{Writer}
use Rattle.listing.specs.Replay.{room_more, room}
use Rattle.listing.specs.Computed.{Listed}
use Rattle.listing.specs.Writer.{HasRoom, Writes}
use Rattle.listing.proofs.Writing.{writes_none, writes_then, writes_most, writes_as}

pub listed_none : (n : ℕ) (w : Writer) {text last : List ℕ} → last ≡ text → Listed n w text last w
listed_none n w e = record { lines = []; writes = writes_most (omega arith) (writes_none w); whole = e }

module _ {n : ℕ} {w v : Writer} {text last : List ℕ} (h : Listed n w text last v) where
  pub listed_as : {other : List ℕ} → text ≡ other → Listed n w other last v
  listed_as e = record { lines = h.lines; writes = h.writes; whole = h.whole ∙ e }

  pub listed_room : (m : ℕ) → m ≤ room_more → HasRoom w (room n) → HasRoom v m
  unfolding room
  listed_room m l r = omega (arith, h.writes.wrote.within, h.writes.wrote.kept)

  pub listed_whole : {u : Writer} {m : ℕ} → m ≤ room_more → Writes m v last u → Writes (room n) w text u
  unfolding room
  listed_whole l t = writes_as (omega arith) h.whole (writes_then h.writes t)
