-- What chains and array methods of the library give, in the words of crate `laws`: a test of each number below another, and an array made or mapped place by
-- place. Assumes nothing.
use Rattle.std.specs.Bool.{MatchBool}
use Rattle.std.specs.Fn.{Mut, Called}
use Rattle.std.specs.Iterator.{ChecksAll}
use Rattle.std.specs.List.{range_with_len, AllWithin, HoldsAt}
use Rattle.std.specs.Array.{IsFromFnResult, IsFromFnResultFrom, IsMapOf}
use Rattle.std.specs.Prelude.{Option}
use Rattle.std.proofs.lemmas.Iterator.{YieldsList, cases_from_all}
use Rattle.std.proofs.lemmas.List.FromFn.{length-range_with_len, get_or-range_with_len}
use mathlib.Core.Path.{◌≡◌, refl, sym, ap, ap₂, subst, ◌∙◌}
use mathlib.Core.Bool.{Bool, true, false}
use mathlib.Core.List.{List, ◌++◌}
use mathlib.Core.Logic.{⊎_elim}
use Prim.Native.Nat.{ℕ, zero, suc, ◌<◌, ◌≤◌, ◌+◌}
use native.Mathlib.Nat.{eq-or-lt_of_le}
use native.Mathlib.Omega.{arith}
use lib.ListN.{length, get_or}
use Rattle.laws.specs.Loops.{all_to, made_by, join_to}
use Rattle.laws.proofs.All.{all_each, all_fails}
use Rattle.laws.proofs.Making.{made_at}
use Rattle.laws.proofs.Made.{made_each}

-- `all` over the numbers below n
module _ {S F : Type 0} {steps : S → Option ℕ → S → Type 0} {g : Mut F (ℕ × Unit {0}) Bool} {s : S} where
  pub all_through
      : (u : S) (f : F) (m n : ℕ) (p : ℕ → Bool) (r : Bool)
      → m ≡ n → YieldsList steps (λ i. i) s (range_with_len 0 m) → ChecksAll steps g s f r u
      → ((i : ℕ) (b : Bool) (q : F) → Called g f (i, tt) b q → (q ≡ f) × (b ≡ p i)) → r ≡ all_to n p
  all_through u f m n p r same e ran each =
      told r
      (cases_from_all u f r (λ i. true ≡ p i) (λ i. false ≡ p i) ran e
      (λ i q k. each i true q k)
      (λ i q k. (each i false q k).1))
    where
      numbers : List ℕ
      numbers = range_with_len 0 m

      long : length numbers ≡ n
      long = length-range_with_len 0 m ∙ same

      place : (i : ℕ) → i < n → get_or numbers i 0 ≡ i
      place i l = get_or-range_with_len 0 m i 0 (omega arith) ∙ omega arith

      told : (b : Bool)
          → MatchBool b
          (AllWithin (λ i. true ≡ p i) numbers 0 (length numbers))
          ((k : ℕ) × (k < length numbers) × HoldsAt (λ i. false ≡ p i) numbers k)
          → b ≡ all_to n p
      told true h = sym (all_each p n (λ i l. sym (subst (λ k. true ≡ p k) (place i l) (h i 0 (omega arith) (omega (arith, long))))))
      told false h =
          let l : h.0 < n = omega (arith, long, h.1) in
          all_fails p n h.0 l (subst (λ k. false ≡ p k) (place h.0 l) (h.2 0))

-- an array made by a closure that its calls leave as it was
module _ {F A : Type 0} {g : Mut F (ℕ × Unit {0}) A} (n : ℕ) (f : ℕ → A) (blank : A) (c : F) (each : (i : ℕ) (y : A) (q : F) → Called g c (i, tt) y q → (q ≡ c) × (y ≡ f i)) (ys : List A) where
  made_from : (m i j : ℕ) → IsFromFnResultFrom g c ys i m → i ≤ j → j < i + m → get_or ys j blank ≡ f j
  made_from zero i j made l h = absurd (omega arith)
  made_from (suc m) i j made l h =
      ⊎_elim
      (λ (e : i ≡ j). rw (← e) (made.2.1 blank ∙ (each i made.1 made.0 made.3).1))
      (λ (b : i < j). made_from m (i + 1) j (subst (λ q. IsFromFnResultFrom g q ys (i + 1) m) (each i made.1 made.0 made.3).0 made.4) (omega arith) (omega arith))
      (eq-or-lt_of_le l)

  pub made_same : IsFromFnResult g c ys n → ys ≡ made_by n f blank
  made_same made = made_each n f blank ys made.long (λ i l. made_from n 0 i made.each (omega arith) (omega arith))

joined : {f k : ℕ → List ℕ} (n : ℕ) → ((i : ℕ) → i < n → f i ≡ k i) → join_to n f ≡ join_to n k
unfolding join_to
joined zero e = refl
joined (suc n) e = ap₂ ◌++◌ (joined n (λ i l. e i (omega arith))) (e n (omega arith))

-- an array mapped by h
module _ {F A B : Type 0} {g : Mut F (A × Unit {0}) B} (n : ℕ) (h : A → B) {c : F} {xs : List A} {ys : List B} (each : (x : A) (y : B) (p q : F) → Called g p (x, tt) y q → y ≡ h x) (made : IsMapOf g c xs ys n) where
  mapped_at : (none : A) (blank : B) (i : ℕ) → i < n → get_or ys i blank ≡ h (get_or xs i none)
  mapped_at none blank i l = let at = made.at i none blank l in each (get_or xs i none) (get_or ys i blank) at.0 at.1 at.2

  -- of one that was made place by place,
  pub mapped_made : (f : ℕ → A) (first : A) (blank : B) → xs ≡ made_by n f first → ys ≡ made_by n (λ i. h (f i)) blank
  mapped_made f first blank e =
      made_each n (λ i. h (f i)) blank ys made.long
      (λ i l. mapped_at first blank i l ∙ ap h (ap (λ l. get_or l i first) e ∙ made_at n f first first i l))

  -- and its entries one after the other
  pub mapped_joined
      : (none : A) (blank : B) (put : B → List ℕ) → join_to n (λ i. put (get_or ys i blank)) ≡ join_to n (λ i. put (h (get_or xs i none)))
  mapped_joined none blank put = joined n (λ i l. ap put (mapped_at none blank i l))
