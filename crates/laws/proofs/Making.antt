-- The loop that makes an array place by place. `Making` is its invariant, whatever the array was at first: a turn stores f i at place i, or leaves there
-- what f i is already. One law begins it, one goes on by each of the two ways, and one ends it. Assumes nothing.
use mathlib.Core.Path.{◌≡◌, sym, ◌∙◌}
use mathlib.Core.List.{List}
use Prim.Native.Nat.{ℕ, ◌+◌, ◌<◌, ◌≤◌}
use native.Mathlib.Omega.{arith}
use lib.Dec.{ltb}
use lib.ListN.{length, get_or, set, replicate, length-replicate}
use borrow.Author.Tests.{ltb-true, ltb-false}
use Rattle.std.proofs.lemmas.List.{ext_get_or}
use Rattle.laws.specs.Loops.{set_to, made_by}
use Rattle.laws.proofs.Cases.{split}
use Rattle.laws.proofs.Lists.{replicate_at}
use Rattle.laws.proofs.Set.{set_none, set_more, set_done, set_at_lem, set_past, set_skip, length_set_to}

module _ {A : Type 0} where
  -- after i turns of n
  pub record Making (n : ℕ) (f : ℕ → A) (first : List A) (i : ℕ) (xs : List A) : Type 0 where
    pub inside : i ≤ n
    pub so_far : xs ≡ set_to i f first

  pub making_none : {n : ℕ} {f : ℕ → A} {first xs : List A} → xs ≡ first → Making n f first 0 xs
  making_none e = record { inside = omega arith; so_far = e ∙ set_none _ _ }

  module _ {n : ℕ} {f : ℕ → A} {first xs ys : List A} {i : ℕ} (below : i < n) where
    pub making_more : {v : A} → ys ≡ set xs i v → v ≡ f i → Making n f first i xs → Making n f first (i + 1) ys
    making_more e v h = record { inside = omega arith; so_far = e ∙ set_more f i first xs _ v h.so_far }

    pub making_skip : (d : A) → ys ≡ xs → f i ≡ get_or first i d → Making n f first i xs → Making n f first (i + 1) ys
    making_skip d e v h = record { inside = omega arith; so_far = e ∙ set_skip f i first xs d v h.so_far }

  pub making_done : {n : ℕ} {f : ℕ → A} {first xs : List A} {i : ℕ} → n ≤ i → Making n f first i xs → xs ≡ set_to n f first
  making_done l h = set_done _ _ _ _ _ h.inside l h.so_far

  -- the turns that are left out are of places that stay blank
  module _ {n : ℕ} {f : ℕ → A} {xs : List A} {i : ℕ} (blank : A) (past : (j : ℕ) → i ≤ j → j < n → f j ≡ blank) (h : Making n f (replicate n blank) i xs) where
    abbrev first : List A
    first = replicate n blank

    whole : (k : ℕ) → length (set_to k f first) ≡ n
    whole k = length_set_to k f first ∙ length-replicate n blank

    place : (j : ℕ) → j < n → get_or (set_to i f first) j blank ≡ f j
    place j l =
        split
        (ltb j i)
        (λ y. set_at_lem i j f first blank (ltb-true j i y) (rw (length-replicate n blank) l))
        (λ e.
        let k = ltb-false j i e in
        set_past i j f first blank k ∙ replicate_at n j blank ∙ sym (past j k l))

    pub making_rest : xs ≡ made_by n f blank
    making_rest =
        h.so_far
        ∙ ext_get_or blank (set_to i f first) (set_to n f first) (whole i ∙ sym (whole n))
        (λ j l.
        let below : j < n = rw (sym (whole i)) l in
        place j below ∙ sym (set_at_lem n j f first blank below (rw (length-replicate n blank) below)))

  -- a place of what was made
  pub made_at : (n : ℕ) (f : ℕ → A) (blank d : A) (i : ℕ) → i < n → get_or (made_by n f blank) i d ≡ f i
  made_at n f blank d i l = set_at_lem n i f (replicate n blank) d l (rw (length-replicate n blank) l)
