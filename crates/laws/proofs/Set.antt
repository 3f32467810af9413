-- Laws of `set_to`. A law named none, more, skip or done is a loop's, the value first. Assumes nothing.
use Rattle.std.specs.Prelude.{if◌then◌else◌}
use mathlib.Core.Path.{◌≡◌, refl, sym, ap, ap₂, ◌∙◌}
use mathlib.Core.Logic.{◌⊎◌, inl, inr, ⊎_elim}
use mathlib.Core.List.{List}
use Prim.Native.Nat.{ℕ, zero, suc, ◌+◌, ◌<◌, ◌≤◌}
use native.Mathlib.Numerals.{add-one}
use native.Mathlib.Omega.{arith}
use lib.Dec.{ltb}
use lib.ListN.{length, get_or, set, length-set}
use lib.Seq.{get_or-set_same, get_or-set_other, set-get_or}
use borrow.Author.Tests.{ltb-true, ltb-false}
use Rattle.laws.specs.Loops.{set_to}
use Rattle.laws.proofs.Cases.{split}
use Rattle.laws.proofs.Lists.{store_cases}
use Rattle.laws.proofs.Fold.{turns_done, last_or_below}

module _ {ℓ} {A : Type ℓ} where
  pub set_none : (f : ℕ → A) (xs : List A) → xs ≡ set_to 0 f xs
  unfolding set_to
  set_none f xs = refl

  pub set_more : (f : ℕ → A) (i : ℕ) (xs ys : List A) (v : A) → v ≡ f i → ys ≡ set_to i f xs → set ys i v ≡ set_to (i + 1) f xs
  unfolding set_to
  set_more f i xs ys v e h = rw add-one (ap₂ (λ y a. set y i a) h e)

  pub set_done : (f : ℕ → A) (i n : ℕ) (xs ys : List A) → i ≤ n → n ≤ i → ys ≡ set_to i f xs → ys ≡ set_to n f xs
  set_done f i n xs ys = turns_done (λ j. set_to j f xs) i n ys

  pub length_set_to : (n : ℕ) (f : ℕ → A) (xs : List A) → length (set_to n f xs) ≡ length xs
  unfolding set_to
  length_set_to zero f xs = refl
  length_set_to (suc n) f xs = length-set (set_to n f xs) n (f n) ∙ length_set_to n f xs

  -- from n on nothing has changed
  pub set_past : (n i : ℕ) (f : ℕ → A) (xs : List A) (d : A) → n ≤ i → get_or (set_to n f xs) i d ≡ get_or xs i d
  unfolding set_to
  set_past zero i f xs d l = refl
  set_past (suc n) i f xs d l = get_or-set_other (set_to n f xs) n i (f n) d (λ e. omega arith) ∙ set_past n i f xs d (omega arith)

  -- below n it is f
  pub set_at_lem : (n i : ℕ) (f : ℕ → A) (xs : List A) (d : A) → i < n → i < length xs → get_or (set_to n f xs) i d ≡ f i
  unfolding set_to
  set_at_lem zero i f xs d l m = absurd (omega arith)
  set_at_lem (suc n) i f xs d l m =
      ⊎_elim
      (λ (e : i ≡ n). rw e (get_or-set_same (set_to n f xs) n (f n) d (rw (length_set_to, ← e) m)))
      (λ (e : i < n). get_or-set_other (set_to n f xs) n i (f n) d (λ q. omega arith) ∙ set_at_lem n i f xs d e m)
      (last_or_below i n l)

module _ {A : Type 0} where
  -- both at once
  pub set_cases : (n i : ℕ) (f : ℕ → A) (xs : List A) (d : A) → i < length xs → get_or (set_to n f xs) i d ≡ (if ltb i n then f i else get_or xs i d)
  set_cases n i f xs d m =
      split (ltb i n) (λ e. rw e (set_at_lem n i f xs d (ltb-true i n e) m)) (λ e. rw e (set_past n i f xs d (ltb-false i n e)))

module _ {ℓ} {A : Type ℓ} where
  -- entries equal one by one
  pub set_same : (f g : ℕ → A) (n : ℕ) (xs : List A) → ((i : ℕ) → i < n → f i ≡ g i) → set_to n f xs ≡ set_to n g xs
  unfolding set_to
  set_same f g zero xs e = refl
  set_same f g (suc n) xs e = ap₂ (λ y a. set y n a) (set_same f g n xs (λ i l. e i (omega arith))) (e n (omega arith))

  -- a turn that leaves its entry as it was
  pub set_skip : (f : ℕ → A) (i : ℕ) (xs ys : List A) (d : A) → f i ≡ get_or xs i d → ys ≡ set_to i f xs → ys ≡ set_to (i + 1) f xs
  unfolding set_to
  set_skip f i xs ys d e h =
      rw add-one (h ∙ sym (set-get_or (set_to i f xs) i d) ∙ ap (λ a. set (set_to i f xs) i a) (set_past i i f xs d (omega arith) ∙ sym e))

  -- entries as they were leave the list as it was
  pub set_kept : (f : ℕ → A) (n : ℕ) (xs : List A) (d : A) → ((i : ℕ) → i < n → f i ≡ get_or xs i d) → set_to n f xs ≡ xs
  unfolding set_to
  set_kept f zero xs d e = refl
  set_kept f (suc n) xs d e =
      ap₂ (λ y a. set y n a) (set_kept f n xs d (λ i l. e i (omega arith))) (e n (omega arith)) ∙ set-get_or xs n d

  -- in a list of any length a place has what was made for it, or what it had
  pub each_cases : (n : ℕ) (f : ℕ → A) (l : List A) (d : A) (i : ℕ) → (get_or (set_to n f l) i d ≡ f i) ⊎ (get_or (set_to n f l) i d ≡ get_or l i d)
  unfolding set_to
  each_cases zero f l d i = inr refl
  each_cases (suc n) f l d i =
      ⊎_elim
      (λ h. inl (h.1 ∙ ap f (sym h.0)))
      (λ h. ⊎_elim (λ k. inl (h ∙ k)) (λ k. inr (h ∙ k)) (each_cases n f l d i))
      (store_cases (set_to n f l) n (f n) d i)

  -- so a relation between new entries and old ones holds everywhere
  pub set_to_keeps
      : (R : A → A → Type 0) (d : A) → ((a : A) → R a a) → (n : ℕ) (g : ℕ → A) (l : List A) (i : ℕ) → ((j : ℕ) → R (g j) (get_or l j d))
      → R (get_or (set_to n g l) i d) (get_or l i d)
  set_to_keeps R d self n g l i new = ⊎_elim (λ c. rw c (new i)) (λ c. rw c (self (get_or l i d))) (each_cases n g l d i)
