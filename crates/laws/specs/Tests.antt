-- Tests as the definitions write them: choices, connectives, and the first of several numbered tests that applies.
-- `&&`, `||` and `not` are the library's. Assumes nothing.
use Rattle.std.specs.Prelude.{Bool, true, false, not, List, [], ◌∷◌, ℕ, eqb, if◌then◌else◌}
use Rattle.std.proofs.Math.Option.{Option, none, some}

infixr 25 ◌implies◌
infix 28 ◌iff◌
infixr 15 ◌when◌or◌
-- where a holds, b does
abbrev pub ◌implies◌ : Bool → Bool → Bool
true implies b = b
false implies b = true

-- a holds exactly when b does
abbrev pub ◌iff◌ : Bool → Bool → Bool
true iff b = b
false iff b = not b

-- a test as a number: 1 where it holds
abbrev pub bit : Bool → ℕ
bit true = 1
bit false = 0

-- numbered tests in order, written `1 when a or 2 when b or accepted`
abbrev pub accepted : List (ℕ × Bool)
accepted = []

abbrev pub ◌when◌or◌ : ℕ → Bool → List (ℕ × Bool) → List (ℕ × Bool)
n when b or ts = (n, b) ∷ ts

-- the number of the first test that holds, if any does
unfoldable pub first_of : List (ℕ × Bool) → Option ℕ
first_of [] = none
first_of (t ∷ ts) = if t.1 then some t.0 else first_of ts

-- the tests without those of the number n
unfoldable pub without : ℕ → List (ℕ × Bool) → List (ℕ × Bool)
without n [] = []
without n (t ∷ ts) = if eqb t.0 n then without n ts else t ∷ without n ts

-- the first of two refusals
infixr 16 ◌or_else◌
abbrev pub ◌or_else◌ : Option ℕ → Option ℕ → Option ℕ
none or_else later = later
some n or_else later = some n
