-- Laws of a number's digits, for the code that writes them. Assumes nothing.
use mathlib.Core.Path.{◌≡◌, refl}
use mathlib.Core.List.{List}
use Prim.Native.Nat.{ℕ, zero, suc, ◌+◌, ◌-◌, ◌<◌, ◌≤◌, ◌/◌, ◌%◌}
use native.Mathlib.Numerals.{sub-one}
use native.Mathlib.Omega.{arith}
use lib.ListN.{set}
use borrow.Author.Tests.{lt-ltb, le-ltb}
use Rattle.lent_bytes.specs.Text.{digits}
use Rattle.lent_bytes.specs.Writing.{Wrote}
use Rattle.lent_bytes.proofs.Writing.{wrote_none, wrote_byte, wrote_then, wrote_most}

pub digits_none : (l : List ℕ) (at n left : ℕ) → left ≡ 0 → Wrote left l at (digits left n) l at
unfolding digits
digits_none l at n left e = rw e (wrote_none l at)

-- the only digit left
pub digits_last : (l : List ℕ) (at n left : ℕ) → (left ≡ 0 → ⊥) → n < 10 → Wrote left l at (digits left n) (set l at (48 + n % 10)) (at + 1)
unfolding digits
digits_last l at n zero f h = absurd (f refl)
digits_last l at n (suc left) f h = rw (lt-ltb n 10 h) (wrote_most (omega arith) (wrote_byte l at (48 + n % 10)))

-- the digits before the last, then the last
pub digits_more
    : {l k : List ℕ} {at e : ℕ} (n left : ℕ) → (left ≡ 0 → ⊥) → 10 ≤ n
    → Wrote (left - 1) l at (digits (left - 1) (n / 10)) k e → Wrote left l at (digits left n) (set k e (48 + n % 10)) (e + 1)
unfolding digits
digits_more n zero f h w = absurd (f refl)
digits_more {k = k} {e = e} n (suc left) f h w =
    rw (le-ltb n 10 h) (wrote_most (omega arith) (wrote_then (rw (sub-one (suc left)) at w) (wrote_byte k e (48 + n % 10))))
