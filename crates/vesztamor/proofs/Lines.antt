-- Tables in bytes: what their length says, and a row of one. Assumes nothing.
use mathlib.Core.Path.{◌≡◌}
use mathlib.Core.Bool.{true}
use mathlib.Core.List.{List}
use Prim.Native.Nat.{ℕ, suc, ◌+◌, ◌*◌, ◌<◌, ◌≤◌}
use native.Mathlib.Nat.{mul-suc, mul-le-mul_left}
use native.Mathlib.Omega.{arith}
use lib.Dec.{leb}
use lib.ListN.{length}
use borrow.Author.Tests.{leb-true, eqb-true, lt-ltb, le-ltb}
use Rattle.laws.proofs.Cases.{and_left, and_right}
use Rattle.lent_bytes.specs.Numbers.{two_bytes}
use Rattle.vesztamor.specs.Tables.{is_sized, row_in}

module _ (header size : ℕ) (bytes : List ℕ) where
  pub sized_least : is_sized header size bytes ≡ true → header ≤ length bytes
  unfolding is_sized
  sized_least y = leb-true header (length bytes) (and_left _ _ y)

  pub sized_length : is_sized header size bytes ≡ true → length bytes ≡ header + size * two_bytes bytes 2
  unfolding is_sized
  sized_length y = eqb-true _ _ (and_right (leb header (length bytes)) _ y)

  pub row_within : (i : ℕ) → is_sized header size bytes ≡ true → i < two_bytes bytes 2 → header + size * i + size ≤ length bytes
  row_within i y l =
      let more : suc i ≤ two_bytes bytes 2 = omega arith in
      omega (arith, sized_length y, mul-suc size i, mul-le-mul_left size more)

  module _ {A : Type 0} (get : List ℕ → ℕ → A) (nothing : A) (i : ℕ) where
    pub row_yes : i < two_bytes bytes 2 → get bytes (header + size * i) ≡ row_in get nothing header size bytes i
    unfolding row_in
    row_yes l = rw (lt-ltb i (two_bytes bytes 2) l)

    pub row_no : two_bytes bytes 2 ≤ i → nothing ≡ row_in get nothing header size bytes i
    unfolding row_in
    row_no l = rw (le-ltb i (two_bytes bytes 2) l)
