-- Laws of tests: case analysis, choices, conjunctions, and the first of several numbered tests. Assumes nothing.
use Rattle.std.specs.Prelude.{if◌then◌else◌}
use mathlib.Core.Path.{◌≡◌, refl, sym, ◌∙◌}
use mathlib.Core.Bool.{Bool, true, false, ◌&&◌, true≢false}
use mathlib.Core.List.Memᴰ
use mathlib.Core.List.{List, [], ◌∷◌, Memᴰ}
use mathlib.Core.Logic.{⊎_elim}
use mathlib.Core.Option.{Option, none, some}
use Prim.Native.Nat.{ℕ}
use native.Mathlib.Omega.{arith}
use lib.Dec.{eqb}
use borrow.Author.Tests.{eqb-true, eqb-false}
use Rattle.laws.specs.Tests.{◌or_else◌, first_of, without}

-- the library's choice is between values of a type of `Type 0`
module _ {C : Type 0} where
  pub if_yes : (b : Bool) (x y : C) → b ≡ true → (if b then x else y) ≡ x
  if_yes b x y e = rw e

  pub if_no : (b : Bool) (x y : C) → b ≡ false → (if b then x else y) ≡ y
  if_no b x y e = rw e

module _ {ℓ} {C : Type ℓ} where
  -- case on a test, keeping its equation
  pub split : (b : Bool) → (b ≡ true → C) → (b ≡ false → C) → C
  split true f g = f refl
  split false f g = g refl

  -- no test holds and fails
  pub holds_fails : {b : Bool} → b ≡ true → b ≡ false → C
  holds_fails p q = absurd (true≢false (sym p ∙ q))

  -- nothing is none and some
  pub none_some {κ} : {A : Type κ} {a : A} → none ≡ some a → C
  none_some p = let z : ◌≡◌ {A = ℕ} 0 1 = cc in absurd (omega arith)

-- nothing after a refusal, or after none, changes it
pub or_none : (x : Option ℕ) → (x or_else none) ≡ x
or_none none = refl
or_none (some n) = refl

-- a test that cannot hold fails, and one that cannot fail holds
pub unheld_fails : (b : Bool) → (b ≡ true → ⊥) → b ≡ false
unheld_fails true n = absurd (n refl)
unheld_fails false n = refl

pub unfailed_holds : (b : Bool) → (b ≡ false → ⊥) → b ≡ true
unfailed_holds true n = refl
unfailed_holds false n = absurd (n refl)

-- tests that hold together are one
pub tests_same : (a b : Bool) → (a ≡ true → b ≡ true) → (b ≡ true → a ≡ true) → a ≡ b
tests_same true b f g = sym (f refl)
tests_same false b f g = sym (unheld_fails b (λ e. true≢false (sym (g e))))

pub and_left : (a b : Bool) → (a && b) ≡ true → a ≡ true
and_left true b h = refl
and_left false b h = h

pub and_right : (a b : Bool) → (a && b) ≡ true → b ≡ true
and_right true b h = h
and_right false b h = absurd (true≢false (sym h))

pub and_both : (a b : Bool) → a ≡ true → b ≡ true → (a && b) ≡ true
and_both a b p q = rw (p, q)

-- numbered tests: the first holds, or it fails and the rest decide
pub first_yes : (n : ℕ) (b : Bool) (ts : List (ℕ × Bool)) → b ≡ true → first_of ((n, b) ∷ ts) ≡ some n
unfolding first_of
first_yes n b ts e = rw e

pub first_no : (n : ℕ) (b : Bool) (ts : List (ℕ × Bool)) → b ≡ false → first_of ((n, b) ∷ ts) ≡ first_of ts
unfolding first_of
first_no n b ts e = rw e

-- where none refuses, the first fails, and so do the later ones
pub none_fails : (n : ℕ) (b : Bool) (ts : List (ℕ × Bool)) → first_of ((n, b) ∷ ts) ≡ none → b ≡ false
unfolding first_of
none_fails n b ts h = split b (λ y. none_some (sym (rw y at h))) (λ f. f)

pub none_later : (n : ℕ) (b : Bool) (ts : List (ℕ × Bool)) → first_of ((n, b) ∷ ts) ≡ none → first_of ts ≡ none
none_later n b ts h = sym (first_no n b ts (none_fails n b ts h)) ∙ h

-- where another number is given, the first fails, and the rest give it
pub first_fails : (n m : ℕ) (b : Bool) (ts : List (ℕ × Bool)) → (n ≡ m → ⊥) → first_of ((n, b) ∷ ts) ≡ some m → b ≡ false
unfolding first_of
first_fails n m b ts other h = split b (λ y. let q : some n ≡ some m = rw y at h in absurd (other cc)) (λ f. f)

pub first_later : (n m : ℕ) (b : Bool) (ts : List (ℕ × Bool)) → (n ≡ m → ⊥) → first_of ((n, b) ∷ ts) ≡ some m → first_of ts ≡ some m
first_later n m b ts other h = sym (first_no n b ts (first_fails n m b ts other h)) ∙ h

-- where the first test's number is not given, the rest decide
pub first_rest : (n : ℕ) (b : Bool) (ts : List (ℕ × Bool)) → (first_of ((n, b) ∷ ts) ≡ some n → ⊥) → first_of ((n, b) ∷ ts) ≡ first_of ts
first_rest n b ts x = split b (λ e. absurd (x (first_yes n b ts e))) (first_no n b ts)

-- what is given is the number of a test that holds
pub first_some : (ts : List (ℕ × Bool)) (n : ℕ) → first_of ts ≡ some n → Memᴰ (n, true) ts
unfolding first_of
first_some [] n h = none_some h
first_some (t ∷ ts) n h =
    split
    t.1
    (λ y.
    let q : some t.0 ≡ some n = rw y at h in
    let e : t.0 ≡ n = cc in
    Memᴰ.head (λ i. (sym e i, sym y i)))
    (λ f. Memᴰ.tail (first_some ts n (rw f at h)))

-- where nothing is given every test fails
pub first_none : (ts : List (ℕ × Bool)) → first_of ts ≡ none → (t : ℕ × Bool) → Memᴰ t ts → t.1 ≡ false
unfolding first_of
first_none [] h t m = absurd (Memᴰ.not-nil m)
first_none (u ∷ ts) h t m =
    split
    u.1
    (λ y. none_some (sym (rw y at h)))
    (λ f. ⊎_elim (λ (e : t ≡ u). rw e f) (λ r. first_none ts (rw f at h) t r) (Memᴰ.cases_cons m))

-- tests of a number that is not given may be left out
pub first_without : (n : ℕ) (ts : List (ℕ × Bool)) → (first_of ts ≡ some n → ⊥) → first_of (without n ts) ≡ first_of ts
unfolding first_of without
first_without n [] h = refl
first_without n (t ∷ ts) h =
    split
    (eqb t.0 n)
    (λ e.
    split
    t.1
    (λ y. absurd (h (rw (y, eqb-true t.0 n e) refl)))
    (λ f. rw (e, f) (first_without n ts (λ q. h (rw f q)))))
    (λ e.
    split
    t.1
    (λ y. rw (e, y) refl)
    (λ f. rw (e, f) (first_without n ts (λ q. h (rw f q)))))

-- and the number of tests left out is never given
pub without_never : (n : ℕ) (ts : List (ℕ × Bool)) → first_of (without n ts) ≡ some n → ⊥
unfolding first_of without
without_never n [] h = none_some h
without_never n (t ∷ ts) h =
    split
    (eqb t.0 n)
    (λ e. without_never n ts (rw e at h))
    (λ e.
    let k : (if t.1 then some t.0 else first_of (without n ts)) ≡ some n = rw e at h in
    split
    t.1
    (λ y.
    let q : some t.0 ≡ some n = rw y at k in
    eqb-false t.0 n e (cc))
    (λ f. without_never n ts (rw f at k)))
