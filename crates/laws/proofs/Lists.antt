-- Laws of lists that the kit lacks: a store seen by cases, in one list and in two, what it leaves, and a list of one value. Assumes nothing.
use Rattle.std.specs.Prelude.{if◌then◌else◌}
use mathlib.Core.Path.{◌≡◌, refl, ap}
use mathlib.Core.List.{List, [], ◌∷◌}
use mathlib.Core.Logic.{◌⊎◌, inl, inr, ⊎_elim}
use Prim.Native.Nat.{ℕ, zero, suc, ◌<◌, ◌≤◌}
use native.Mathlib.Omega.{arith}
use lib.Dec.{eqb}
use lib.ListN.{length, get_or, set, take, replicate}
use lib.Seq.{get_or-set_same, get_or-set_other}
use Rattle.std.proofs.lemmas.List.{get_or-take, length-take-le}
use borrow.Author.Tests.{eqb-true, eqb-false}
use Rattle.laws.proofs.Cases.{split}

module _ {A : Type 0} where
  -- after a store inside the list
  pub get_d_set : (l : List A) (i j : ℕ) (a d : A) → i < length l → get_or (set l i a) j d ≡ (if eqb j i then a else get_or l j d)
  get_d_set l i j a d h =
      split
      (eqb j i)
      (λ e. rw (e, eqb-true j i e) (get_or-set_same l i a d h))
      (λ e. rw e (get_or-set_other l i j a d (eqb-false j i e)))

module _ {ℓ} {A : Type ℓ} where
  -- in a list of any length a place has what was stored, or what it had
  pub store_cases : (l : List A) (t : ℕ) (x d : A) (i : ℕ) → ((i ≡ t) × (get_or (set l t x) i d ≡ x)) ⊎ (get_or (set l t x) i d ≡ get_or l i d)
  store_cases [] t x d i = inr refl
  store_cases (y ∷ l) zero x d zero = inl (refl, refl)
  store_cases (y ∷ l) zero x d (suc i) = inr refl
  store_cases (y ∷ l) (suc t) x d zero = inr refl
  store_cases (y ∷ l) (suc t) x d (suc i) = ⊎_elim (λ h. inl (ap suc h.0, h.1)) (λ h. inr h) (store_cases l t x d i)

  -- so a relation that holds between the new entry and the old one holds everywhere: with equality of a field for the relation, a frame law
  pub set_keeps
      : (R : A → A → Type 0) (d : A) → ((a : A) → R a a) → (l : List A) (s i : ℕ) (x : A) → R x (get_or l s d) → R (get_or (set l s x) i d) (get_or l i d)
  set_keeps R d self l s i x new = ⊎_elim (λ c. rw (c.1, c.0) new) (λ c. rw c (self (get_or l i d))) (store_cases l s x d i)

  -- lists of one length that agree at j agree there after one store in both
  pub set_both : (l m : List A) (i j : ℕ) (a d : A) → length l ≡ length m → get_or l j d ≡ get_or m j d → get_or (set l i a) j d ≡ get_or (set m i a) j d
  set_both [] [] i j a d e h = refl
  set_both [] (y ∷ m) i j a d e h = absurd (omega arith)
  set_both (x ∷ l) [] i j a d e h = absurd (omega arith)
  set_both (x ∷ l) (y ∷ m) zero zero a d e h = refl
  set_both (x ∷ l) (y ∷ m) zero (suc j) a d e h = h
  set_both (x ∷ l) (y ∷ m) (suc i) zero a d e h = h
  set_both (x ∷ l) (y ∷ m) (suc i) (suc j) a d e h = set_both l m i j a d (omega arith) h

  -- a list of one value has it at every place, past the end too where that is what is found there
  pub replicate_at : (n i : ℕ) (a : A) → get_or (replicate n a) i a ≡ a
  replicate_at zero i a = refl
  replicate_at (suc n) zero a = refl
  replicate_at (suc n) (suc i) a = replicate_at n i a

-- place i of the first n of a list, and that it is one of them
pub taken : {A : Type 0} (n i : ℕ) (xs : List A) (d : A) → n ≤ length xs → i < length (take n xs) → (i < n) × (get_or (take n xs) i d ≡ get_or xs i d)
taken n i xs d l m = let below : i < n = omega (arith, length-take-le n xs l) in (below, get_or-take n xs i d below)
