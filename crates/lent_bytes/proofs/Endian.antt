-- The library's little-endian bytes of a number are those of specs/Numbers.antt, read and written. Assumes nothing.
use Rattle.std.specs.Int.{w16, w32, to_le_bytes, from_le_bytes}
use mathlib.Core.Path.{◌≡◌}
use mathlib.Core.List.{List, [], ◌∷◌}
use Prim.Native.Nat.{ℕ, ◌+◌, ◌/◌, ◌%◌}
use native.Mathlib.Omega.{arith}
use Rattle.lent_bytes.specs.Numbers.{byte_at, two_bytes, four_bytes, two, four, Fits16, Fits32}

pub two_read : (bytes : List ℕ) (at : ℕ) → from_le_bytes w16 (byte_at bytes at ∷ byte_at bytes (at + 1) ∷ []) ≡ two_bytes bytes at
unfolding two_bytes
two_read bytes at = omega arith

pub four_read
    : (bytes : List ℕ) (at : ℕ)
    → from_le_bytes w32 (byte_at bytes at ∷ byte_at bytes (at + 1) ∷ byte_at bytes (at + 2) ∷ byte_at bytes (at + 3) ∷ []) ≡ four_bytes bytes at
unfolding two_bytes four_bytes
four_read bytes at =
    let e : at + 2 + 1 ≡ at + 3 = omega arith in
    rw e (omega arith)

pub two_written : (n : ℕ) → Fits16 n → to_le_bytes w16 n ≡ two n
unfolding two
two_written n fits =
    let high : n / 256 % 256 ≡ n / 256 = omega arith in
    rw high

pub four_written : (n : ℕ) → Fits32 n → to_le_bytes w32 n ≡ four n
unfolding two four
four_written n fits =
    let a : n % 65536 % 256 ≡ n % 256 = omega arith in
    let b : n % 65536 / 256 ≡ n / 256 % 256 = omega arith in
    let c : n / 65536 / 256 ≡ n / 16777216 % 256 = omega arith in
    rw (a, b, c)
