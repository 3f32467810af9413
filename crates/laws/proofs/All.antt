-- Laws of `all_to`: of the test, and of what the library answers that goes over numbers or looks for one. Assumes nothing.
use mathlib.Core.Path.{◌≡◌, refl, sym, ap, ap₂, ◌∙◌}
use mathlib.Core.Bool.{Bool, true, false, not, ◌&&◌, true≢false}
use mathlib.Core.List.{List}
use lib.Dec.{eqb}
use lib.ListN.{length, get_or, take}
use Rattle.std.specs.Bool.{MatchBool}
use Rattle.std.specs.Fn.{Mut, Called}
use Rattle.std.specs.Iterator.{ChecksAll}
use Rattle.std.specs.List.{AllWithin, HoldsAt, IsAnyAnswer, range_with_len}
use Rattle.std.specs.declared.ops.Range.{Range}
use Rattle.std.proofs.iter.Yields.{nat_range_steps}
use Rattle.std.proofs.lemmas.Iterator.{cases_from_all, YieldsList-from_range}
use Rattle.std.proofs.lemmas.List.{length-take-le}
use Rattle.std.proofs.lemmas.List.FromFn.{length-range_with_len, get_or-range_with_len}
use mathlib.Core.Logic.{⊎_elim}
use Prim.Native.Nat.{ℕ, zero, suc, ◌<◌, ◌≤◌}
use native.Mathlib.Nat.{zero-add}
use native.Mathlib.Omega.{arith}
use Rattle.laws.specs.Loops.{all_to}
use Rattle.laws.proofs.Cases.{split, and_left, and_right, and_both}
use Rattle.laws.proofs.Lists.{taken}
use Rattle.laws.proofs.Fold.{last_or_below}

-- what holds of all holds of each
pub all_at : (p : ℕ → Bool) (n i : ℕ) → i < n → all_to n p ≡ true → p i ≡ true
unfolding all_to
all_at p zero i l h = absurd (omega arith)
all_at p (suc n) i l h =
    ⊎_elim
    (λ (e : i ≡ n). rw e (and_right (all_to n p) _ h))
    (λ (e : i < n). all_at p n i e (and_left _ _ h))
    (last_or_below i n l)

-- what holds of each holds of all
pub all_each : (p : ℕ → Bool) (n : ℕ) → ((i : ℕ) → i < n → p i ≡ true) → all_to n p ≡ true
unfolding all_to
all_each p zero h = refl
all_each p (suc n) h = and_both _ _ (all_each p n (λ i l. h i (omega arith))) (h n (omega arith))

-- one that fails makes the whole fail
pub all_fails : (p : ℕ → Bool) (n i : ℕ) → i < n → false ≡ p i → false ≡ all_to n p
all_fails p n i l h = split (all_to n p) (λ e. absurd (true≢false (sym (h ∙ all_at p n i l e)))) sym

-- where the whole fails, one fails
pub all_missing : (p : ℕ → Bool) (n : ℕ) → all_to n p ≡ false → (i : ℕ) × (i < n) × (p i ≡ false)
unfolding all_to
all_missing p zero h = absurd (true≢false h)
all_missing p (suc n) h =
    split
    (p n)
    (λ t.
    split
    (all_to n p)
    (λ a. absurd (true≢false (sym (and_both _ _ a t) ∙ h)))
    (λ f. let r = all_missing p n f in (r.0, omega arith, r.2)))
    (λ f. (n, omega arith, f))

-- tests equal one by one
pub all_ext : (n : ℕ) (p q : ℕ → Bool) → ((i : ℕ) → i < n → p i ≡ q i) → all_to n p ≡ all_to n q
unfolding all_to
all_ext zero p q e = refl
all_ext (suc n) p q e = ap₂ ◌&&◌ (all_ext n p q (λ i l. e i (omega arith))) (e n (omega arith))

-- what the library's `contains` answers of the first n places, the other way round: that no place has the number
pub none_by
    : (n : ℕ) (xs : List ℕ) (x : ℕ) (r : Bool) → n ≤ length xs → IsAnyAnswer (λ y b. eqb y x ≡ b) (take n xs) r
    → not r ≡ all_to n (λ k. not (eqb (get_or xs k 0) x))
none_by n xs x true l some =
    let at = taken n some.0 xs 0 l some.1 in
    all_fails _ n some.0 at.0 (sym (ap (λ y. not (eqb y x)) (sym at.1) ∙ ap not (some.2 0)))
none_by n xs x false l each =
    sym
    (all_each _ n
    (λ i m.
    let inside : i < length (take n xs) = omega (arith, length-take-le n xs l) in
    ap (λ y. not (eqb y x)) (sym (taken n i xs 0 l inside).1) ∙ ap not (each i 0 (omega arith) inside)))

ranged_at : (n i : ℕ) → i < n → get_or (range_with_len 0 n) i 0 ≡ i
ranged_at n i l = get_or-range_with_len 0 n i 0 l ∙ zero-add i

-- what the library's `all` comes to over the numbers below n, by its lemma `cases_from_all`
pub all_ranged
    : (n : ℕ) (p : ℕ → Bool) (r : Bool)
    → MatchBool r (AllWithin (λ i. p i ≡ true) (range_with_len 0 n) 0 (length (range_with_len 0 n))) ((k : ℕ) × (k < length (range_with_len 0 n)) × HoldsAt (λ i. p i ≡ false) (range_with_len 0 n) k)
    → r ≡ all_to n p
all_ranged n p true each =
    sym (all_each p n (λ i l. ap p (sym (ranged_at n i l)) ∙ each i 0 (omega arith) (omega (arith, length-range_with_len 0 n))))
all_ranged n p false some =
    let l : some.0 < n = omega (arith, some.1, length-range_with_len 0 n) in
    all_fails p n some.0 l (sym (ap p (sym (ranged_at n some.0 l)) ∙ some.2 0))

-- the same from the contract of `all` itself: x and q are an item and the closure after its call
module _ {F : Type 0} {g : Mut F (ℕ × Unit {0}) Bool} where
  pub all_checked
      : (n : ℕ) (p : ℕ → Bool) {f : F} {u : Range ℕ} {r : Bool}
      → ChecksAll nat_range_steps g (record { start = 0; end = n }) f r u
      → ((x : ℕ) (q : F) → Called g f (x, tt) true q → (q ≡ f) × (p x ≡ true))
      → ((x : ℕ) (q : F) → Called g f (x, tt) false q → p x ≡ false)
      → r ≡ all_to n p
  all_checked n p {f} {u} {r} ran holds fails =
      all_ranged
      n
      p
      r
      (cases_from_all u f r (λ i. p i ≡ true) (λ i. p i ≡ false) ran (YieldsList-from_range 0 n n refl (omega arith)) holds fails)
