-- What writing into a lent buffer asks and does. Assumes nothing.
use Rattle.std.specs.Prelude.{◌≡◌, List, ℕ, ◌+◌, ◌≤◌, length}
use Rattle.lent_bytes.specs.Writing.{Wrote}
use Rattle.listing.specs.declared.writer.Writer.{Writer}

-- so many bytes are left
abbrev pub HasRoom : Writer → ℕ → Type 0
HasRoom w most = w.end + most ≤ length w.out.now

-- the writer after a text, which has at most so many bytes, in the same lent buffer
pub record Writes (most : ℕ) (before : Writer) (text : List ℕ) (after : Writer) : Type 0 where
  pub wrote : Wrote most before.out.now before.end text after.out.now after.end
  pub same : after.out.ghost_name ≡ before.out.ghost_name
