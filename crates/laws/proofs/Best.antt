-- What the best of the places is: the law of `best_to`, ties included, and that it leaves no choice. Assumes nothing.
use Rattle.std.specs.Prelude.{if◌then◌else◌}
use mathlib.Core.Path.{◌≡◌, refl, sym, ◌∙◌}
use mathlib.Core.Bool.{Bool, true, false}
use mathlib.Core.Logic.{◌⊎◌, inl, inr, ⊎_elim}
use Prim.Native.Nat.{ℕ, zero, suc, ◌<◌, ◌≤◌}
use native.Mathlib.Omega.{arith}
use lib.Dec.{ltb}
use borrow.Author.Tests.{ltb-true, ltb-false, lt-ltb, le-ltb}
use Rattle.laws.specs.Loops.{fold_to, better_of, best_to}
use Rattle.laws.proofs.Cases.{split, holds_fails}
use Rattle.laws.proofs.Fold.{last_or_below}

-- no place below n counts, and b is the number that says so
pub record None (none n : ℕ) (p : ℕ → Bool) (b : ℕ) : Type 0 where
  pub is_none : b ≡ none
  pub nobody : (i : ℕ) → i < n → p i ≡ false

-- b counts, no place below n that counts has a greater key, and an earlier one has a smaller
pub record Some (n : ℕ) (p : ℕ → Bool) (key : ℕ → ℕ) (b : ℕ) : Type 0 where
  pub inside : b < n
  pub counts : p b ≡ true
  pub most : (i : ℕ) → i < n → p i ≡ true → key i ≤ key b
  pub first : (i : ℕ) → i < b → p i ≡ true → key i < key b

abbrev pub Best : ℕ → ℕ → (ℕ → Bool) → (ℕ → ℕ) → ℕ → Type 0
Best none n p key b = None none n p b ⊎ Some n p key b

module _ (none : ℕ) (p : ℕ → Bool) (key : ℕ → ℕ) (n : ℕ) where
  -- n does not count
  skip : (b : ℕ) → p n ≡ false → Best none n p key b → Best none (suc n) p key b
  skip b e (inl h) =
      inl (record { is_none = h.is_none; nobody = λ i l. ⊎_elim (λ (q : i ≡ n). rw q e) (λ q. h.nobody i q) (last_or_below i n l) })
  skip b e (inr h) =
      inr
      (record {
        inside = (let k = h.inside in omega arith);
        counts = h.counts;
        most = λ i l c. ⊎_elim (λ (q : i ≡ n). holds_fails c (rw q e)) (λ q. h.most i q c) (last_or_below i n l);
        first = h.first;
      })

  -- n is better than b
  take : (b : ℕ) → p n ≡ true → key b < key n → Some n p key b → Some (suc n) p key n
  take b e g h =
      record {
        inside = omega arith;
        counts = e;
        most = λ i l c. ⊎_elim (λ (q : i ≡ n). rw q (omega arith)) (λ q. let m = h.most i q c in omega arith) (last_or_below i n l);
        first = λ i l c. let m = h.most i l c in omega arith;
      }

  -- n is not better than b
  stay : (b : ℕ) → key n ≤ key b → Some n p key b → Some (suc n) p key b
  stay b g h =
      record {
        inside = (let k = h.inside in omega arith);
        counts = h.counts;
        most = λ i l c. ⊎_elim (λ (q : i ≡ n). rw q g) (λ q. h.most i q c) (last_or_below i n l);
        first = h.first;
      }

  -- n is the first that counts
  only : (b : ℕ) → p n ≡ true → None none n p b → Some (suc n) p key n
  only b e h =
      record {
        inside = omega arith;
        counts = e;
        most = λ i l c. ⊎_elim (λ (q : i ≡ n). rw q (omega arith)) (λ q. holds_fails c (h.nobody i q)) (last_or_below i n l);
        first = λ i l c. holds_fails c (h.nobody i l);
      }

  against : (b : ℕ) → p n ≡ true → Some n p key b → Some (suc n) p key (if ltb (key b) (key n) then n else b)
  against b c h =
      split
      (ltb (key b) (key n))
      (λ e. rw e (take b c (ltb-true _ _ e) h))
      (λ e. rw e (stay b (ltb-false _ _ e) h))

  counted : (b : ℕ) → p n ≡ true → n < none → Best none n p key b → Best none (suc n) p key (better_of none p key n b)
  unfolding better_of
  counted b e l (inl h) = inr (rw (e, le-ltb b none (let k = h.is_none in omega arith)) (only b e h))
  counted b e l (inr h) = inr (rw (e, lt-ltb b none (let k = h.inside in omega arith)) (against b e h))

  turn : (b : ℕ) → n < none → Best none n p key b → Best none (suc n) p key (better_of none p key n b)
  unfolding better_of
  turn b l h = split (p n) (λ e. counted b e l h) (λ e. rw e (skip b e h))

-- what the best is
pub best_is : (none n : ℕ) (p : ℕ → Bool) (key : ℕ → ℕ) → n ≤ none → Best none n p key (best_to none n p key)
unfolding best_to fold_to
best_is none zero p key l = inl (record { is_none = refl; nobody = λ i m. absurd (omega arith) })
best_is none (suc n) p key l = turn none p key n (fold_to n (better_of none p key) none) (omega arith) (best_is none n p key (omega arith))

-- nothing else is
pub best_only : (none n : ℕ) (p : ℕ → Bool) (key : ℕ → ℕ) (b c : ℕ) → Best none n p key b → Best none n p key c → b ≡ c
best_only none n p key b c (inl h) (inl k) = h.is_none ∙ sym k.is_none
best_only none n p key b c (inl h) (inr k) = holds_fails k.counts (h.nobody c k.inside)
best_only none n p key b c (inr h) (inl k) = holds_fails h.counts (k.nobody b h.inside)
best_only none n p key b c (inr h) (inr k) =
    let x = h.most c k.inside k.counts in
    let y = k.most b h.inside h.counts in
    split
    (ltb b c)
    (λ e. let z = k.first b (ltb-true b c e) h.counts in absurd (omega arith))
    (λ e.
    split
    (ltb c b)
    (λ f. let z = h.first c (ltb-true c b f) k.counts in absurd (omega arith))
    (λ f. omega (arith, ltb-false b c e, ltb-false c b f)))

-- tests equal below n, and keys equal where they count, have one best
module _
    (none n : ℕ)
    (p q : ℕ → Bool)
    (key other : ℕ → ℕ)
    (same : (i : ℕ) → i < n → p i ≡ q i)
    (keys : (i : ℕ) → i < n → p i ≡ true → key i ≡ other i)
  where
    change : (b : ℕ) → Best none n p key b → Best none n q other b
    change b (inl h) = inl (record { is_none = h.is_none; nobody = λ i l. sym (same i l) ∙ h.nobody i l })
    change b (inr h) =
        inr
        (record {
          inside = h.inside;
          counts = sym (same b h.inside) ∙ h.counts;
          most = λ i l c.
              let d : p i ≡ true = same i l ∙ c in
              omega (arith, keys i l d, keys b h.inside h.counts, h.most i l d);
          first = λ i l c.
              let m : i < n = omega (arith, h.inside) in
              let d : p i ≡ true = same i m ∙ c in
              omega (arith, keys i m d, keys b h.inside h.counts, h.first i l d);
        })

    pub best_ext : n ≤ none → best_to none n p key ≡ best_to none n q other
    best_ext l = best_only none n q other _ _ (change _ (best_is none n p key l)) (best_is none n q other l)
