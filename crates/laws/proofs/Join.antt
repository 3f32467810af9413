-- Laws of `join_to`. A law named none or more is a loop's, the value first. Assumes nothing.
use mathlib.Core.Path.{◌≡◌, refl, ap₂, ◌∙◌}
use mathlib.Core.List.{List, [], ◌++◌}
use Prim.Native.Nat.{ℕ, zero, suc, ◌+◌, ◌*◌, ◌≤◌}
use native.Mathlib.Numerals.{add-one}
use native.Mathlib.Omega.{arith}
use lib.ListN.{length, length-append}
use Rattle.laws.specs.Loops.{join_to}

module _ {ℓ} {A : Type ℓ} where
  pub join_none : (f : ℕ → List A) → [] ≡ join_to 0 f
  unfolding join_to
  join_none f = refl

  pub join_more : (f : ℕ → List A) (i : ℕ) (xs ys : List A) → ys ≡ f i → xs ≡ join_to i f → xs ++ ys ≡ join_to (i + 1) f
  unfolding join_to
  join_more f i xs ys e h = rw add-one (ap₂ ◌++◌ h e)

  -- parts of one length, and parts of at most so much
  pub join_long : (f : ℕ → List A) (size : ℕ) → ((i : ℕ) → length (f i) ≡ size) → (n : ℕ) → length (join_to n f) ≡ size * n
  unfolding join_to
  join_long f size long zero = omega arith
  join_long f size long (suc n) = length-append (join_to n f) (f n) ∙ omega (arith, join_long f size long n, long n)

  pub join_most : (f : ℕ → List A) (most : ℕ) → ((i : ℕ) → length (f i) ≤ most) → (n : ℕ) → length (join_to n f) ≤ most * n
  unfolding join_to
  join_most f most within zero = omega arith
  join_most f most within (suc n) = simp length-append (omega (arith, join_most f most within n, within n))
