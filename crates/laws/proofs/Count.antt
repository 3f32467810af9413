-- Laws of `count_to`. A law named none, more, same or done is a loop's, the value first; the others speak of the test. Assumes nothing.
use Rattle.std.specs.Prelude.{if◌then◌else◌}
use mathlib.Core.Path.{◌≡◌, refl, sym, ap, ap₂, ◌∙◌}
use mathlib.Core.Bool.{Bool, true, false}
use Prim.Native.Nat.{ℕ, zero, suc, ◌+◌, ◌<◌, ◌≤◌}
use native.Mathlib.Nat.{add-zero}
use native.Mathlib.Numerals.{add-one}
use native.Mathlib.Omega.{arith}
use Rattle.laws.specs.Tests.{bit}
use Rattle.laws.specs.Loops.{count_to, sum_to}
use lib.Dec.{eqb}
use mir.Val.{bool_byte}
use borrow.Author.Tests.{eqb-true, eq-eqb, ne_eqb}
use Rattle.laws.proofs.Cases.{split, unheld_fails}
use Rattle.laws.proofs.Fold.{turns_done}
use Rattle.laws.proofs.Sum.{sum_ext, sum_le, sum_zero, sum_at, sum_but_one}

pub bit_le : (b : Bool) → bit b ≤ 1
bit_le true = omega arith
bit_le false = omega arith

-- a test as a number, as the library's `From` gives it
pub bit_byte : (b : Bool) → bool_byte b ≡ bit b
bit_byte true = refl
bit_byte false = refl

pub count_none : (p : ℕ → Bool) → 0 ≡ count_to 0 p
unfolding count_to
count_none p = refl

pub count_more : (p : ℕ → Bool) (i k : ℕ) (b : Bool) → b ≡ p i → k ≡ count_to i p → k + bit b ≡ count_to (i + 1) p
unfolding count_to
count_more p i k b e h = rw add-one (ap₂ (λ x y. x + bit y) h e)

-- a turn whose test failed and that added nothing
pub count_same : (p : ℕ → Bool) (i k : ℕ) → false ≡ p i → k ≡ count_to i p → k ≡ count_to (i + 1) p
count_same p i k e h = sym (add-zero k) ∙ count_more p i k false e h

pub count_done : (p : ℕ → Bool) (i n k : ℕ) → i ≤ n → n ≤ i → k ≡ count_to i p → k ≡ count_to n p
count_done p i n k = turns_done (λ j. count_to j p) i n k

-- a count is a sum of bits
pub count_sum : (n : ℕ) (p : ℕ → Bool) → count_to n p ≡ sum_to n (λ i. bit (p i))
unfolding count_to sum_to
count_sum zero p = refl
count_sum (suc n) p = ap (λ k. k + bit (p n)) (count_sum n p)

pub count_le : (n : ℕ) (p : ℕ → Bool) → count_to n p ≤ n
unfolding count_to
count_le zero p = omega arith
count_le (suc n) p = omega (arith, count_le n p, bit_le (p n))

-- tests equal one by one
pub count_ext : (n : ℕ) (p q : ℕ → Bool) → ((i : ℕ) → i < n → p i ≡ q i) → count_to n p ≡ count_to n q
count_ext n p q e = rw (count_sum n p, count_sum n q) (sum_ext n _ _ (λ i l. ap bit (e i l)))

bit_mono : (a b : Bool) → (a ≡ true → b ≡ true) → bit a ≤ bit b
bit_mono true b h = rw (h refl) (omega arith)
bit_mono false b h = omega arith

-- what holds wherever p does holds at least as often
pub count_mono : (n : ℕ) (p q : ℕ → Bool) → ((i : ℕ) → i < n → p i ≡ true → q i ≡ true) → count_to n p ≤ count_to n q
count_mono n p q h = rw (count_sum n p, count_sum n q) (sum_le n _ _ (λ i l. bit_mono (p i) (q i) (h i l)))

-- what holds somewhere is counted
pub count_some : (n i : ℕ) (p : ℕ → Bool) → i < n → p i ≡ true → 1 ≤ count_to n p
count_some n i p l e = omega (arith, count_sum n p, sum_at n i (λ j. bit (p j)) l, ap bit e)

-- what holds nowhere counts 0, and what counts 0 holds nowhere
pub count_zero : (n : ℕ) (p : ℕ → Bool) → ((i : ℕ) → i < n → p i ≡ false) → count_to n p ≡ 0
count_zero n p h = count_sum n p ∙ sum_zero n _ (λ i l. ap bit (h i l))

pub zero_count : (n i : ℕ) (p : ℕ → Bool) → count_to n p ≡ 0 → i < n → p i ≡ false
zero_count n i p e l = split (p i) (λ t. absurd (omega (arith, count_some n i p l t))) (λ f. f)

-- counts of tests that differ at one place differ as that place does
pub count_but_one
    : (n i : ℕ) (p q : ℕ → Bool) → i < n → ((j : ℕ) → j < n → (j ≡ i → ⊥) → p j ≡ q j) → count_to n p + bit (q i) ≡ count_to n q + bit (p i)
count_but_one n i p q l h = rw (count_sum n p, count_sum n q) (sum_but_one n i _ _ l (λ j m x. ap bit (h j m x)))

-- p everywhere but at i
abbrev but : ℕ → (ℕ → Bool) → ℕ → Bool
but i p j = if eqb j i then false else p j

-- what holds at most once holds at one place
pub count_one_same : (n i j : ℕ) (p : ℕ → Bool) → count_to n p ≤ 1 → i < n → j < n → p i ≡ true → p j ≡ true → i ≡ j
count_one_same n i j p one l m a b =
    split
    (eqb j i)
    (λ e. sym (eqb-true j i e))
    (λ e.
    let h : bit (but i p i) ≡ 0 = rw (eq-eqb i i refl) in
    let k : 1 ≤ count_to n (but i p) = count_some n j (but i p) m (rw e b) in
    absurd (omega (arith, ap bit a, count_but_one n i p (but i p) l (λ x y q. rw (ne_eqb x i q)))))

-- what holds at no two places holds at most once
pub count_once : (n : ℕ) (p : ℕ → Bool) → ((i j : ℕ) → i < j → j < n → p i ≡ true → p j ≡ true → ⊥) → count_to n p ≤ 1
unfolding count_to
count_once zero p h = omega arith
count_once (suc n) p h =
    split
    (p n)
    (λ y. rw y (omega (arith, count_zero n p (λ i l. unheld_fails (p i) (λ e. h i n l (omega arith) e y)))))
    (λ f. rw f (omega (arith, count_once n p (λ i j l m. h i j l (omega arith)))))

-- what is counted holds somewhere
pub count_found : (n : ℕ) (p : ℕ → Bool) → 1 ≤ count_to n p → (i : ℕ) × (i < n) × (p i ≡ true)
unfolding count_to
count_found zero p h = absurd (omega arith)
count_found (suc n) p h =
    split
    (p n)
    (λ y. (n, omega arith, y))
    (λ f. let r = count_found n p (omega (arith, ap bit f)) in (r.0, omega (arith, r.1), r.2))
