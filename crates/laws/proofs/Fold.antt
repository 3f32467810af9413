-- Laws of any loop that counts up. A law named none, more or done is a loop's: its equation stands as an invariant does, the value first.
-- Assumes nothing.
use mathlib.Core.Path.{◌≡◌, refl, ap, ◌∙◌}
use mathlib.Core.Logic.{◌⊎◌}
use Prim.Native.Nat.{ℕ, zero, suc, ◌+◌, ◌<◌, ◌≤◌}
use native.Mathlib.Nat.{le_antisymm, eq-or-lt_of_le, le_of_suc-le-suc}
use native.Mathlib.Numerals.{add-one}
use native.Mathlib.Omega.{arith}
use Rattle.laws.specs.Loops.{fold_to}

-- a place below n + 1 is n or below n
pub last_or_below : (i n : ℕ) → i < suc n → (i ≡ n) ⊎ (i < n)
last_or_below i n l = eq-or-lt_of_le (le_of_suc-le-suc l)

module _ {ℓ} {A : Type ℓ} where
  -- the turns done are all the turns
  pub turns_done : (after : ℕ → A) (i n : ℕ) (y : A) → i ≤ n → n ≤ i → y ≡ after i → y ≡ after n
  turns_done after i n y l g h = h ∙ ap after (le_antisymm l g)

  pub fold_none : (f : ℕ → A → A) (a : A) → a ≡ fold_to 0 f a
  unfolding fold_to
  fold_none f a = refl

  pub fold_more : (f : ℕ → A → A) (i : ℕ) (a y z : A) → y ≡ fold_to i f a → z ≡ f i y → z ≡ fold_to (i + 1) f a
  unfolding fold_to
  fold_more f i a y z h e = rw add-one (e ∙ ap (f i) h)

  pub fold_done : (f : ℕ → A → A) (i n : ℕ) (a y : A) → i ≤ n → n ≤ i → y ≡ fold_to i f a → y ≡ fold_to n f a
  fold_done f i n a y = turns_done (λ j. fold_to j f a) i n y

  -- what each turn keeps, all turns keep
  pub fold_keeps {κ}
      : (P : A → Type κ) (f : ℕ → A → A) (n : ℕ) → ((i : ℕ) → i < n → (x : A) → P x → P (f i x)) → (a : A) → P a → P (fold_to n f a)
  unfolding fold_to
  fold_keeps P f zero k a p = p
  fold_keeps P f (suc n) k a p = k n (omega arith) (fold_to n f a) (fold_keeps P f n (λ i l x q. k i (omega arith) x q) a p)
