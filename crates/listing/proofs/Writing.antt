-- Laws of a writer: nothing written, one text after another. Assumes nothing.
use mathlib.Core.Path.{◌≡◌, refl, ◌∙◌}
use mathlib.Core.List.{List, [], ◌++◌}
use Prim.Native.Nat.{ℕ, ◌+◌, ◌≤◌}
use Rattle.listing.specs.declared.writer.Writer.{Writer}
use Rattle.listing.specs.Writer.{Writes}
use Rattle.lent_bytes.proofs.Writing.{wrote_none, wrote_then, wrote_most}

pub writes_none : (w : Writer) → Writes 0 w [] w
writes_none w = record { wrote = wrote_none w.out.now w.end; same = refl }

pub writes_then : {m n : ℕ} {w v u : Writer} {xs ys : List ℕ} → Writes m w xs v → Writes n v ys u → Writes (m + n) w (xs ++ ys) u
writes_then first then = record { wrote = wrote_then first.wrote then.wrote; same = then.same ∙ first.same }

-- a bound may be larger
pub writes_most : {m n : ℕ} {w v : Writer} {xs : List ℕ} → m ≤ n → Writes m w xs v → Writes n w xs v
writes_most h t = record { wrote = wrote_most h t.wrote; same = t.same }

-- the same text by another name
pub writes_as : {m n : ℕ} {w v : Writer} {xs ys : List ℕ} → m ≤ n → xs ≡ ys → Writes m w xs v → Writes n w ys v
writes_as h e t = rw (← e) (writes_most h t)
