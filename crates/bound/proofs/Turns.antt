-- What an allowance makes of one calculation, of two one after the other, and of the turns of a loop. Assumes nothing.
use Rattle.std.specs.Prelude.{if◌then◌else◌, Option, Some, None}
use mathlib.Core.Path.{◌≡◌, refl, sym, ap, ap₂, ◌∙◌}
use mathlib.Core.Logic.{⊎_elim}
use Prim.Native.Nat.{ℕ, zero, suc, ◌+◌, ◌-◌, ◌<◌, ◌≤◌}
use native.Mathlib.Nat.{eq-or-lt_of_le}
use native.Mathlib.Numerals.{add-one}
use native.Mathlib.Omega.{arith}
use lib.Dec.{leb, ltb}
use borrow.Author.Tests.{le-leb, lt-leb, leb-true, leb-false, lt-ltb, le-ltb}
use Rattle.std.proofs.lemmas.Option.{same_Some}
use Rattle.laws.proofs.Cases.{split}
use Rattle.bound.specs.declared.Tally.{Tally}
use Rattle.bound.specs.Interference.{Weighed, weighed, nothing, both, larger, gathered, first_greatest}
use Rattle.bound.specs.Computed.{spend}

-- an answer, by its parts
abbrev pub Of : ℕ → Option ℕ → ℕ → Option Tally
Of value giver left = Some (record { value = value; giver = giver; left = left })

abbrev pub Exceeded : Option Tally
Exceeded = None

-- the allowance lasts
pub record Lasted (w : Weighed) (a v : ℕ) (u : Option ℕ) (l : ℕ) : Type 0 where
  pub enough : w.weighings ≤ a
  pub value_is : v ≡ w.value
  pub giver_is : u ≡ w.giver
  pub left_is : l ≡ a - w.weighings

module _ (w : Weighed) (a : ℕ) where
  spend_in : w.weighings ≤ a → spend w a ≡ Of w.value (w.giver) (a - w.weighings)
  unfolding spend
  spend_in h = rw (le-leb _ _ h)

  spend_out : a < w.weighings → spend w a ≡ Exceeded
  unfolding spend
  spend_out h = rw (lt-leb _ _ h)

  -- an answer taken apart, and put together
  pub lasted : (v : ℕ) (u : Option ℕ) (l : ℕ) → Of v u l ≡ spend w a → Lasted w a v u l
  lasted v u l e =
      split (leb w.weighings a)
      (λ y.
      let n = leb-true w.weighings a y in
      let q : Of v u l ≡ Of w.value (w.giver) (a - w.weighings) = e ∙ spend_in n in
      let parts = same_Some _ _ q in
      record { enough = n; value_is = ap (λ t. t.value) parts; giver_is = ap (λ t. t.giver) parts; left_is = ap (λ t. t.left) parts })
      (λ f.
      let q : Of v u l ≡ Exceeded = e ∙ spend_out (leb-false w.weighings a f) in
      absurd (let z : ◌≡◌ {A = ℕ} 0 1 = cc in omega arith))

  pub lasts : (v : ℕ) (u : Option ℕ) (l : ℕ) → Lasted w a v u l → Of v u l ≡ spend w a
  lasts v u l h = rw (h.value_is, h.giver_is, h.left_is) (sym (spend_in h.enough))

  pub exceeded : Exceeded ≡ spend w a → a < w.weighings
  exceeded e =
      split (leb w.weighings a)
      (λ y.
      let q : Exceeded ≡ Of w.value (w.giver) (a - w.weighings) = e ∙ spend_in (leb-true w.weighings a y) in
      absurd (let z : ◌≡◌ {A = ℕ} 0 1 = cc in omega arith))
      (leb-false w.weighings a)

  pub exceeds : a < w.weighings → Exceeded ≡ spend w a
  exceeds h = sym (spend_out h)

-- equal calculations leave the same
pub spend_same : (w o : Weighed) (a : ℕ) → w ≡ o → spend w a ≡ spend o a
spend_same w o a = ap (λ x. spend x a)

pub nothing_of : (a : ℕ) → Of 0 None a ≡ spend nothing a
nothing_of a = lasts nothing a 0 None a (record { enough = omega arith; value_is = refl; giver_is = refl; left_is = omega arith })

-- one weighing, which the allowance has or has not
pub one_of : (v a : ℕ) → (a ≡ 0 → ⊥) → Of v None (a - 1) ≡ spend (weighed v None 1) a
one_of v a n = lasts _ a v None (a - 1) (record { enough = omega (arith, n); value_is = refl; giver_is = refl; left_is = refl })

-- two calculations one after the other on one allowance, of which w is made: the weighings add up
module _ (a : ℕ) (first second w : Weighed) (sum : w.weighings ≡ first.weighings + second.weighings) where
  pub then_of
      : (x : ℕ) (p : Option ℕ) (l y : ℕ) (q : Option ℕ) (m v : ℕ) (u : Option ℕ) → Of x p l ≡ spend first a → Of y q m ≡ spend second l → v ≡ w.value → u ≡ w.giver → Of v u m ≡ spend w a
  then_of x p l y q m v u e d ev eu =
      let h = lasted first a x p l e in
      let k = lasted second l y q m d in
      lasts w a v u m (record { enough = omega arith; value_is = ev; giver_is = eu; left_is = omega arith })

  pub then_later : (x : ℕ) (p : Option ℕ) (l : ℕ) → Of x p l ≡ spend first a → Exceeded ≡ spend second l → Exceeded ≡ spend w a
  then_later x p l e d = let h = lasted first a x p l e in exceeds w a (omega (arith, exceeded second l d))

-- the first of them exceeds the allowance
pub first_out : (a : ℕ) (first w : Weighed) (more : ℕ) → w.weighings ≡ first.weighings + more → Exceeded ≡ spend first a → Exceeded ≡ spend w a
first_out a first w more sum e = exceeds w a (omega (arith, exceeded first a e))

-- w is both of them
module _ (a : ℕ) (first second w : Weighed) (is : w ≡ both first second) where
  sum : w.weighings ≡ first.weighings + second.weighings
  sum = ap (λ o. o.weighings) is

  pub both_of : (x : ℕ) (p : Option ℕ) (l y : ℕ) (q : Option ℕ) (m : ℕ) → Of x p l ≡ spend first a → Of y q m ≡ spend second l → Of (x + y) None m ≡ spend w a
  both_of x p l y q m e d =
      then_of a first second w sum x p l y q m (x + y) None e d
      (ap₂ (λ n k. n + k) (lasted first a x p l e).value_is (lasted second l y q m d).value_is ∙ ap (λ o. o.value) (sym is))
      (ap (λ o. o.giver) (sym is))

  pub both_later : (x : ℕ) (p : Option ℕ) (l : ℕ) → Of x p l ≡ spend first a → Exceeded ≡ spend second l → Exceeded ≡ spend w a
  both_later = then_later a first second w sum

-- a loop whose turns spend one allowance
pub turns_none : (join : ℕ → Weighed → Weighed → Weighed) (give : ℕ → Weighed) (a : ℕ) → Of 0 None a ≡ spend (gathered join give 0) a
unfolding gathered
turns_none join give = nothing_of

module _ (join : ℕ → Weighed → Weighed → Weighed) (sums : (i : ℕ) (x y : Weighed) → (join i x y).weighings ≡ x.weighings + y.weighings) (give : ℕ → Weighed) where
  grows : (i n : ℕ) → i ≤ n → (gathered join give i).weighings ≤ (gathered join give n).weighings
  unfolding gathered
  grows i zero l = let e : i ≡ 0 = omega arith in rw e (omega arith)
  grows i (suc n) l =
      ⊎_elim
      (λ (e : i ≡ suc n). rw e (omega arith))
      (λ (m : i < suc n). omega (arith, grows i n (omega arith), sums n (gathered join give n) (give n)))
      (eq-or-lt_of_le l)

  -- turn i exceeds the allowance, and so do all
  pub turn_out
      : (a i n v : ℕ) (u : Option ℕ) (l : ℕ) → i < n → Of v u l ≡ spend (gathered join give i) a → Exceeded ≡ spend (give i) l → Exceeded ≡ spend (gathered join give n) a
  unfolding gathered
  turn_out a i n v u l m e d =
      let now = exceeded _ a (then_later a _ _ (gathered join give (suc i)) (sums i (gathered join give i) (give i)) v u l e d) in
      exceeds _ a (omega (arith, now, grows (suc i) n m))

  -- turn i lasts
  turn_of_lem
      : (a i v : ℕ) (u : Option ℕ) (l y : ℕ) (p : Option ℕ) (k v' : ℕ) (u' : Option ℕ) → Of v u l ≡ spend (gathered join give i) a → Of y p k ≡ spend (give i) l
      → v' ≡ (join i (gathered join give i) (give i)).value → u' ≡ (join i (gathered join give i) (give i)).giver
      → Of v' u' k ≡ spend (gathered join give (i + 1)) a
  unfolding gathered
  turn_of_lem a i v u l y p k v' u' e d ev eu = rw add-one (then_of a _ _ _ (sums i (gathered join give i) (give i)) v u l y p k v' u' e d ev eu)

module _ (give : ℕ → Weighed) (a i v : ℕ) (u : Option ℕ) (l y : ℕ) (p : Option ℕ) (k : ℕ) (made : Of y p k ≡ spend (give i) l) where
  -- a sum: one section more
  pub sum_goes : Of v u l ≡ spend (gathered (λ c. both) give i) a → Of (v + y) None k ≡ spend (gathered (λ c. both) give (i + 1)) a
  sum_goes e =
      turn_of_lem (λ c. both) (λ c x z. refl) give a i v u l y p k (v + y) None e made
      (ap₂ (λ n m. n + m) (lasted _ a v u l e).value_is (lasted _ l y p k made).value_is) refl

  -- the largest of the orders: one task more
  pub order_goes
      : (m : ℕ) → m ≡ (if ltb v y then y else v)
      → Of v u l ≡ spend (gathered (λ x. larger) give i) a → Of m None k ≡ spend (gathered (λ x. larger) give (i + 1)) a
  order_goes m is e =
      turn_of_lem (λ x. larger) (λ x z w. refl) give a i v u l y p k m None e made
      (is ∙ ap₂ (λ n w. if ltb n w then w else n) (lasted _ a v u l e).value_is (lasted _ l y p k made).value_is) refl

  -- the first of the greatest: it is greater, or it is not
  module _ (e : Of v u l ≡ spend (gathered first_greatest give i) a) (v' : ℕ) (u' : Option ℕ) where
    value_was : v ≡ (gathered first_greatest give i).value
    value_was = (lasted _ a v u l e).value_is

    value_now : y ≡ (give i).value
    value_now = (lasted _ l y p k made).value_is

    pub best_greater : v < y → v' ≡ y → u' ≡ Some i → Of v' u' k ≡ spend (gathered first_greatest give (i + 1)) a
    best_greater h ev eu =
        let better = lt-ltb (gathered first_greatest give i).value (give i).value (omega (arith, value_was, value_now)) in
        turn_of_lem first_greatest (λ j x z. refl) give a i v u l y p k v' u' e made (rw better (ev ∙ value_now)) (rw better eu)

    pub best_stays : y ≤ v → v' ≡ v → u' ≡ u → Of v' u' k ≡ spend (gathered first_greatest give (i + 1)) a
    best_stays h ev eu =
        let worse = le-ltb (gathered first_greatest give i).value (give i).value (omega (arith, value_was, value_now)) in
        turn_of_lem first_greatest (λ j x z. refl) give a i v u l y p k v' u' e made (rw worse (ev ∙ value_was)) (rw worse (eu ∙ (lasted _ a v u l e).giver_is))

-- no section gives the largest of the orders
no_giver : (give : ℕ → Weighed) (n : ℕ) → (gathered (λ x. larger) give n).giver ≡ None
unfolding gathered
no_giver give zero = refl
no_giver give (suc n) = refl

-- a task that gives nothing changes nothing
pub order_stays
    : (give : ℕ → Weighed) (a i v : ℕ) (u : Option ℕ) (l : ℕ) → Of 0 None l ≡ spend (give i) l
    → Of v u l ≡ spend (gathered (λ x. larger) give i) a → Of v u l ≡ spend (gathered (λ x. larger) give (i + 1)) a
order_stays give a i v u l made e =
    ap (λ g. Of v g l) ((lasted _ a v u l e).giver_is ∙ no_giver give i)
    ∙ order_goes give a i v u l 0 None l made v (sym (rw (le-ltb v 0 (omega arith)))) e
