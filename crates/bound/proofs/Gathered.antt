-- Laws of `gathered`, and of a number that is enough. Assumes nothing.
use mathlib.Core.Path.{◌≡◌, refl, sym, ap, ap₂, ◌∙◌}
use mathlib.Core.Logic.{⊎_elim}
use Prim.Native.Nat.{ℕ, zero, suc, ◌<◌, ◌≤◌}
use native.Mathlib.Nat.{eq-or-lt_of_le}
use native.Mathlib.Omega.{arith}
use Rattle.bound.specs.Interference.{Weighed, nothing, gathered}

module _ (join : ℕ → Weighed → Weighed → Weighed) where
  -- turns that give the same
  pub gathered_same : (f g : ℕ → Weighed) (n : ℕ) → ((j : ℕ) → j < n → f j ≡ g j) → gathered join f n ≡ gathered join g n
  unfolding gathered
  gathered_same f g zero e = refl
  gathered_same f g (suc n) e = ap₂ (join n) (gathered_same f g n (λ j l. e j (omega arith))) (e n (omega arith))

  module _ (give : ℕ → Weighed) where
    -- turns from i on that leave all as it is
    pub gathered_past
        : (i n : ℕ) → i ≤ n → ((j : ℕ) → i ≤ j → j < n → join j (gathered join give j) (give j) ≡ gathered join give j)
        → gathered join give n ≡ gathered join give i
    unfolding gathered
    gathered_past i zero l idle = let e : 0 ≡ i = omega arith in ap (gathered join give) e
    gathered_past i (suc n) l idle =
        ⊎_elim
        (λ (e : i ≡ suc n). ap (gathered join give) (sym e))
        (λ (m : i < suc n). idle n (omega arith) (omega arith) ∙ gathered_past i n (omega arith) (λ j h k. idle j h (omega arith)))
        (eq-or-lt_of_le l)

    -- turns that give nothing
    pub gathered_none
        : (n : ℕ) → ((j : ℕ) → join j nothing nothing ≡ nothing) → ((j : ℕ) → j < n → give j ≡ nothing) → gathered join give n ≡ nothing
    unfolding gathered
    gathered_none zero stays e = refl
    gathered_none (suc n) stays e = ap₂ (join n) (gathered_none n stays (λ j l. e j (omega arith))) (e n (omega arith)) ∙ stays n

-- where one more changes nothing from n on, n is enough
pub enough {ℓ} : {A : Type ℓ} (f : ℕ → A) (n : ℕ) → ((k : ℕ) → n ≤ k → f k ≡ f (suc k)) → (k : ℕ) → n ≤ k → f k ≡ f n
enough f n more zero l = ap f (omega arith)
enough f n more (suc k) l =
    ⊎_elim (λ (e : n ≡ suc k). ap f (sym e)) (λ (m : n < suc k). sym (more k (omega arith)) ∙ enough f n more k (omega arith)) (eq-or-lt_of_le l)
