-- Little-endian numbers in bytes, read and written, and which numbers a width takes. Assumes nothing.
use Rattle.std.specs.Prelude.{List, [], ◌∷◌, ◌++◌, ℕ, ◌+◌, ◌*◌, ◌/◌, ◌%◌, ◌<◌, ◌^◌, get_or}

abbrev pub byte_at : List ℕ → ℕ → ℕ
byte_at bytes at = get_or bytes at 0

-- little-endian: rule 13.1
unfoldable pub two_bytes : List ℕ → ℕ → ℕ
two_bytes bytes at = byte_at bytes at + 256 * byte_at bytes (at + 1)

unfoldable pub four_bytes : List ℕ → ℕ → ℕ
four_bytes bytes at = two_bytes bytes at + 65536 * two_bytes bytes (at + 2)

unfoldable pub one : ℕ → List ℕ
one n = n ∷ []

unfoldable pub two : ℕ → List ℕ
two n = n % 256 ∷ n / 256 ∷ []

unfoldable pub four : ℕ → List ℕ
four n = two (n % 65536) ++ two (n / 65536)

-- What the types of the code say of a slice and of a number, which antt does not see in a list of numbers.
abbrev pub Bytes : List ℕ → Type 0
Bytes bytes = (i : ℕ) → byte_at bytes i < 2 ^ 8

abbrev pub Fits16 : ℕ → Type 0
Fits16 n = n < 2 ^ 16

abbrev pub Fits32 : ℕ → Type 0
Fits32 n = n < 2 ^ 32
