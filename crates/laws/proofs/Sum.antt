-- Laws of `sum_to`. A law named none, more or done is a loop's, the value first. Assumes nothing.
use mathlib.Core.Path.{◌≡◌, refl, sym, ap, ap₂, ◌∙◌}
use mathlib.Core.Logic.{⊎_elim}
use Prim.Native.Nat.{ℕ, zero, suc, ◌+◌, ◌<◌, ◌≤◌}
use native.Mathlib.Numerals.{add-one}
use native.Mathlib.Omega.{arith}
use lib.Dec.{ltb}
use borrow.Author.Tests.{lt-ltb, ltb-true, ltb-false}
use Rattle.laws.specs.Tests.{bit}
use Rattle.laws.specs.Loops.{sum_to}
use Rattle.laws.proofs.Cases.{split}
use Rattle.laws.proofs.Fold.{turns_done, last_or_below}

pub sum_none : (f : ℕ → ℕ) → 0 ≡ sum_to 0 f
unfolding sum_to
sum_none f = refl

pub sum_more : (f : ℕ → ℕ) (i k m : ℕ) → m ≡ f i → k ≡ sum_to i f → k + m ≡ sum_to (i + 1) f
unfolding sum_to
sum_more f i k m e h = rw add-one (ap₂ ◌+◌ h e)

pub sum_done : (f : ℕ → ℕ) (i n k : ℕ) → i ≤ n → n ≤ i → k ≡ sum_to i f → k ≡ sum_to n f
sum_done f i n k = turns_done (λ j. sum_to j f) i n k

-- summands equal one by one
pub sum_ext : (n : ℕ) (f g : ℕ → ℕ) → ((i : ℕ) → i < n → f i ≡ g i) → sum_to n f ≡ sum_to n g
unfolding sum_to
sum_ext zero f g e = refl
sum_ext (suc n) f g e = ap₂ ◌+◌ (sum_ext n f g (λ i l. e i (omega arith))) (e n (omega arith))

-- summands at most those of g
pub sum_le : (n : ℕ) (f g : ℕ → ℕ) → ((i : ℕ) → i < n → f i ≤ g i) → sum_to n f ≤ sum_to n g
unfolding sum_to
sum_le zero f g h = omega arith
sum_le (suc n) f g h = omega (arith, sum_le n f g (λ i l. h i (omega arith)), h n (omega arith))

pub sum_add : (n : ℕ) (f g : ℕ → ℕ) → sum_to n (λ i. f i + g i) ≡ sum_to n f + sum_to n g
unfolding sum_to
sum_add zero f g = refl
sum_add (suc n) f g = omega (arith, sum_add n f g)

-- a sum of nothing, and back
pub sum_zero : (n : ℕ) (f : ℕ → ℕ) → ((i : ℕ) → i < n → f i ≡ 0) → sum_to n f ≡ 0
unfolding sum_to
sum_zero zero f h = refl
sum_zero (suc n) f h = omega (arith, sum_zero n f (λ i l. h i (omega arith)), h n (omega arith))

-- each summand is at most the sum
pub sum_at : (n i : ℕ) (f : ℕ → ℕ) → i < n → f i ≤ sum_to n f
unfolding sum_to
sum_at zero i f l = absurd (omega arith)
sum_at (suc n) i f l = ⊎_elim (λ (e : i ≡ n). rw e (omega arith)) (λ e. omega (arith, sum_at n i f e)) (last_or_below i n l)

-- sums that differ at one place differ as that place does
pub sum_but_one : (n i : ℕ) (f g : ℕ → ℕ) → i < n → ((j : ℕ) → j < n → (j ≡ i → ⊥) → f j ≡ g j) → sum_to n f + g i ≡ sum_to n g + f i
unfolding sum_to
sum_but_one zero i f g l h = absurd (omega arith)
sum_but_one (suc n) i f g l h =
    ⊎_elim
    (λ (e : i ≡ n). rw e (omega (arith, sum_ext n f g (λ j m. h j (omega arith) (λ q. omega arith)))))
    (λ (e : i < n). omega (arith, sum_but_one n i f g e (λ j m. h j (omega arith)), h n (omega arith) (λ q. omega arith)))
    (last_or_below i n l)

-- where only one summand is not 0, the sum is that one
pub sum_one : (n i : ℕ) (f : ℕ → ℕ) → i < n → ((j : ℕ) → j < n → (j ≡ i → ⊥) → f j ≡ 0) → sum_to n f ≡ f i
sum_one n i f l h = omega (arith, sum_but_one n i f (λ j. 0) l h, sum_zero n (λ j. 0) (λ j m. refl))

-- a sum of sums, either way round
pub sum_swap : (n m : ℕ) (f : ℕ → ℕ → ℕ) → sum_to n (λ i. sum_to m (f i)) ≡ sum_to m (λ j. sum_to n (λ i. f i j))
unfolding sum_to
sum_swap zero m f = sym (sum_zero m (λ j. 0) (λ j l. refl))
sum_swap (suc n) m f =
    ap (λ k. k + sum_to m (f n)) (sum_swap n m f) ∙ sym (sum_add m (λ j. sum_to n (λ i. f i j)) (f n))

-- where each summand is at most another's and the sums are not less, the summands are equal
pub sum_pinched : (n : ℕ) (f g : ℕ → ℕ) → ((i : ℕ) → i < n → f i ≤ g i) → sum_to n g ≤ sum_to n f → (i : ℕ) → i < n → f i ≡ g i
unfolding sum_to
sum_pinched zero f g h s i l = absurd (omega arith)
sum_pinched (suc n) f g h s i l =
    let last = h n (omega arith) in
    let rest = sum_le n f g (λ j m. h j (omega arith)) in
    ⊎_elim
    (λ (e : i ≡ n). rw e (omega arith))
    (λ (e : i < n). sum_pinched n f g (λ j m. h j (omega arith)) (omega arith) i e)
    (last_or_below i n l)

-- so many numbers are below m
pub sum_below : (n m : ℕ) → m ≤ n → sum_to n (λ j. bit (ltb j m)) ≡ m
unfolding sum_to
sum_below zero m l = omega arith
sum_below (suc n) m l =
    split
    (ltb n m)
    (λ y.
    let e : m ≡ suc n = omega (arith, ltb-true n m y) in
    rw y
    (omega (
      arith,
      sum_ext n (λ j. bit (ltb j m)) (λ j. bit (ltb j n)) (λ j k. ap bit (lt-ltb j m (omega arith) ∙ sym (lt-ltb j n k))),
      sum_below n n (omega arith),
    )))
    (λ f. rw f (omega (arith, sum_below n m (ltb-false n m f))))
