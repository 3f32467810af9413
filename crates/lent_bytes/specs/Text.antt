-- Text as bytes, and numbers in decimal. Assumes nothing.
use Rattle.std.specs.Prelude.{List, [], ◌∷◌, ◌++◌, ℕ, zero, suc, ◌+◌, ◌/◌, ◌%◌, ltb, if◌then◌else◌}
use Prim.Native.Char.{code}
use Prim.Native.String.{String}
use Prim.Native.String as string

-- a text's characters as bytes (all texts here are ASCII)
unfoldable pub bytes : String → List ℕ
bytes string.[] = []
bytes (string.◌∷◌ c s) = code c ∷ bytes s

-- the last digits of a number, at most so many
unfoldable pub digits : ℕ → ℕ → List ℕ
digits zero n = []
digits (suc left) n = (if ltb n 10 then [] else digits left (n / 10)) ++ (48 + n % 10) ∷ []

-- as many digits as are enough for every number of 64 bits (law `decimal_more`)
abbrev pub digits_most : ℕ
digits_most = 20

-- a number in decimal without padding
unfoldable pub decimal : ℕ → List ℕ
decimal n = digits digits_most n
