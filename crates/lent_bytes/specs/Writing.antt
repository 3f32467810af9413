-- What writing into lent bytes does: a part stored from an offset on, and a text whose end is told. Assumes nothing.
use Rattle.std.specs.Prelude.{◌≡◌, List, ℕ, ◌+◌, ◌≤◌, length}
use Rattle.std.proofs.lemmas.List.Edits.{sets}

-- bytes with a part stored from an offset on
unfoldable pub stored : List ℕ → ℕ → List ℕ → List ℕ
stored bytes at part = sets bytes at part

-- `after` is `before` with the text from `at` on; `end` is the offset after the text, which has at most so many bytes
pub record Wrote (most : ℕ) (before : List ℕ) (at : ℕ) (text : List ℕ) (after : List ℕ) (end : ℕ) : Type 0 where
  pub ends : end ≡ at + length text
  pub within : end ≤ at + most
  pub holds : after ≡ stored before at text
  pub kept : length after ≡ length before
