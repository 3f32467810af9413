-- The twenty digits of `decimal` never cut a number: for each number of twenty digits or fewer, more change nothing. Assumes nothing.
use Rattle.std.specs.Prelude.{if◌then◌else◌}
use mathlib.Core.Path.{◌≡◌, refl, ap}
use mathlib.Core.List.{[], ◌∷◌, ◌++◌}
use Prim.Native.Nat.{ℕ, zero, suc, ◌+◌, ◌/◌, ◌%◌, ◌^◌, ◌<◌, ◌≤◌}
use native.Mathlib.Nat.{pow-suc, pow-le-pow_right}
use native.Mathlib.Omega.{arith}
use lib.Dec.{ltb}
use borrow.Author.Tests.{lt-ltb}
use Rattle.lent_bytes.specs.Text.{digits, digits_most, decimal}

-- a tenth of a number has a digit less
tenth : (k n : ℕ) → n < 10 ^ suc k → n / 10 < 10 ^ k
tenth k n l = omega (arith, pow-suc 10 k)

digits_more : (k m n : ℕ) → n < 10 ^ suc k → n < 10 ^ suc m → digits (suc k) n ≡ digits (suc m) n
unfolding digits
digits_more zero zero n a b = refl
digits_more zero (suc m) n a b = rw (lt-ltb n 10 (omega arith))
digits_more (suc k) zero n a b = rw (lt-ltb n 10 (omega arith))
digits_more (suc k) (suc m) n a b =
    ap (λ l. (if ltb n 10 then [] else l) ++ (48 + n % 10) ∷ []) (digits_more k m (n / 10) (tenth (suc k) n a) (tenth (suc m) n b))

pub decimal_more : (k n : ℕ) → n < 10 ^ digits_most → digits_most ≤ k → digits k n ≡ decimal n
unfolding decimal
decimal_more zero n l h = absurd (omega arith)
decimal_more (suc k) n l h = digits_more k 19 n (omega (arith, pow-le-pow_right {n = 10} (omega arith) h)) l
