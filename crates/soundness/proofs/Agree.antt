-- Stacks and owners, queues and waits: when every entry is its holder's and no entry stands twice, and there are as many entries as owned items,
-- then each holder has each item once where it owns it and not at all where not; and back. Said once, for any holders and items. Assumes nothing.
use Rattle.std.specs.Prelude.{if◌then◌else◌}
use mathlib.Core.Path.{◌≡◌, refl, sym, ap, ◌∙◌}
use mathlib.Core.Bool.{Bool, true, ◌&&◌}
use Prim.Native.Nat.{ℕ, ◌<◌, ◌≤◌}
use native.Mathlib.Omega.{arith}
use lib.Dec.{ltb, eqb}
use borrow.Author.Tests.{ltb-true, ltb-false, lt-ltb, eqb-true, eqb-false, eq-eqb, ne_eqb}
use Rattle.laws.specs.Tests.{bit}
use Rattle.laws.specs.Loops.{count_to, sum_to}
use Rattle.laws.proofs.Cases.{split, if_yes, if_no, holds_fails, unheld_fails, and_left, and_right, and_both}
use Rattle.laws.proofs.Count.{count_sum, count_zero, count_some, count_once, count_one_same, bit_le}
use Rattle.laws.proofs.Sum.{sum_ext, sum_zero, sum_one, sum_le, sum_swap, sum_pinched, sum_below}
use Rattle.model.specs.State.{places}

module _ (size : ℕ → ℕ) (entry : ℕ → ℕ → ℕ) where
  -- place j of t is in use and has r
  abbrev pub has_at : ℕ → ℕ → ℕ → Bool
  has_at t r j = ltb j (size t) && eqb (entry t j) r

  -- how often t has r
  abbrev pub times : ℕ → ℕ → ℕ
  times t r = count_to places (has_at t r)

  has_at_lem : (t j : ℕ) → j < size t → has_at t (entry t j) j ≡ true
  has_at_lem t j l = and_both _ _ (lt-ltb j (size t) l) (eq-eqb (entry t j) (entry t j) refl)

  pub has_below : (t r j : ℕ) → has_at t r j ≡ true → j < size t
  has_below t r j h = ltb-true j (size t) (and_left (ltb j (size t)) _ h)

  pub has_entry : (t r j : ℕ) → has_at t r j ≡ true → entry t j ≡ r
  has_entry t r j h = eqb-true (entry t j) r (and_right (ltb j (size t)) _ h)

  -- what is no entry of t it has not at all
  pub times_none : (t r : ℕ) → ((j : ℕ) → j < size t → entry t j ≡ r → ⊥) → times t r ≡ 0
  times_none t r none =
      count_zero places (has_at t r) (λ j l. unheld_fails (has_at t r j) (λ h. none j (has_below t r j h) (has_entry t r j h)))

  -- over all items, t has as many as it has entries
  all_times : (t : ℕ) → size t ≤ places → ((j : ℕ) → j < size t → entry t j < places) → sum_to places (times t) ≡ size t
  all_times t l inside =
      sum_ext places (times t) (λ r. sum_to places (λ j. bit (has_at t r j))) (λ r m. count_sum places (has_at t r))
      ∙ sum_swap places places (λ r j. bit (has_at t r j))
      ∙ sum_ext places (λ j. sum_to places (λ r. bit (has_at t r j))) (λ j. bit (ltb j (size t))) (λ j m. one j)
      ∙ sum_below places (size t) l
    where
      one : (j : ℕ) → sum_to places (λ r. bit (has_at t r j)) ≡ bit (ltb j (size t))
      one j =
          split
          (ltb j (size t))
          (λ y.
          sum_one
          places
          (entry t j)
          (λ r. bit (has_at t r j))
          (inside j (ltb-true _ _ y))
          (λ r m x. ap bit (unheld_fails (has_at t r j) (λ h. x (sym (has_entry t r j h)))))
          ∙ ap bit (has_at_lem t j (ltb-true _ _ y))
          ∙ ap bit (sym y))
          (λ n. rw n (sum_zero places _ (λ r m. refl)))

-- the entries of t are its own, each once
abbrev pub Own : (ℕ → ℕ) → (ℕ → ℕ) → (ℕ → ℕ → ℕ) → ℕ → Type 0
Own owner size entry t =
    (size t ≤ places) ×
    ((j : ℕ) → j < size t → (owner (entry t j) ≡ t) × (entry t j < places) × ((k : ℕ) → k < j → entry t k ≡ entry t j → ⊥))

-- as many entries as owned items
abbrev pub Totals : (ℕ → Bool) → (ℕ → ℕ) → (ℕ → ℕ) → Type 0
Totals holder owner size = sum_to places (λ t. if holder t then size t else 0) ≡ sum_to places (λ r. bit (ltb (owner r) places))

-- t has items only,
abbrev pub Fits : (ℕ → Bool) → (ℕ → ℕ) → (ℕ → ℕ → ℕ) → ℕ → Type 0
Fits item size entry t = (size t ≤ places) × ((j : ℕ) → j < places → j < size t → item (entry t j) ≡ true)

-- each once where it owns it and not at all where not
abbrev pub Once : (ℕ → Bool) → (ℕ → ℕ) → (ℕ → ℕ) → (ℕ → ℕ → ℕ) → ℕ → Type 0
Once item owner size entry t = (r : ℕ) → item r ≡ true → times size entry t r ≡ bit (eqb (owner r) t)

module _
    (holder item : ℕ → Bool)
    (owner size : ℕ → ℕ)
    (entry : ℕ → ℕ → ℕ)
    (holder_below : (t : ℕ) → holder t ≡ true → t < places)
    (item_below : (r : ℕ) → item r ≡ true → r < places)
    (owned_held : (r : ℕ) → r < places → owner r < places → holder (owner r) ≡ true)
    (owned_item : (r : ℕ) → r < places → owner r < places → item r ≡ true)
  where
    abbrev sizes : ℕ → ℕ
    sizes t = if holder t then size t else 0

    -- how often holder t has r, and how often it ought to
    abbrev has : ℕ → ℕ → ℕ
    has t r = if holder t then times size entry t r else 0

    abbrev ought : ℕ → ℕ → ℕ
    ought t r = if holder t then bit (eqb (owner r) t) else 0

    has_all : (t : ℕ) → (holder t ≡ true → (size t ≤ places) × ((j : ℕ) → j < size t → entry t j < places)) → sum_to places (has t) ≡ sizes t
    has_all t h =
        split
        (holder t)
        (λ y.
        sum_ext places (has t) (times size entry t) (λ r m. if_yes _ _ _ y)
        ∙ all_times size entry t (h y).0 (h y).1
        ∙ sym (if_yes _ _ _ y))
        (λ n. sum_zero places (has t) (λ r m. if_no _ _ _ n) ∙ sym (if_no _ _ _ n))

    ought_all : sum_to places (λ t. sum_to places (ought t)) ≡ sum_to places (λ r. bit (ltb (owner r) places))
    ought_all = sum_swap places places ought ∙ sum_ext places (λ r. sum_to places (λ t. ought t r)) (λ r. bit (ltb (owner r) places)) one
      where
        other : (r t : ℕ) → (owner r ≡ t → ⊥) → ought t r ≡ 0
        other r t x = split (holder t) (λ y. rw (y, ne_eqb (owner r) t x)) (λ n. rw n)

        one : (r : ℕ) → r < places → sum_to places (λ t. ought t r) ≡ bit (ltb (owner r) places)
        one r l =
            split
            (ltb (owner r) places)
            (λ y.
            let m : owner r < places = ltb-true _ _ y in
            sum_one places (owner r) (λ t. ought t r) m (λ t k x. other r t (λ e. x (sym e)))
            ∙ rw (y, owned_held r l m, eq-eqb (owner r) (owner r) refl))
            (λ n. rw n (sum_zero places (λ t. ought t r) (λ t k. other r t (λ e. omega (arith, ltb-false (owner r) places n)))))

    -- the code's facts give the definition's
    module _ (own : (t : ℕ) → holder t ≡ true → Own owner size entry t) where
      has_most : (t r : ℕ) → has t r ≤ ought t r
      has_most t r =
          split
          (holder t)
          (λ y. rw y (most y))
          (λ n. rw n (omega arith))
        where
          most : holder t ≡ true → times size entry t r ≤ bit (eqb (owner r) t)
          most y =
              split
              (eqb (owner r) t)
              (λ e.
              rw e
              (count_once
              places
              (has_at size entry t r)
              (λ i j l m a b.
              ((own t y).1 j (has_below size entry t r j b)).2 i l (has_entry size entry t r i a ∙ sym (has_entry size entry t r j b)))))
              (λ n.
              rw n
              (omega (arith, times_none size entry t r (λ j l e. eqb-false (owner r) t n (ap owner (sym e) ∙ ((own t y).1 j l).0)))))

      rows : (t : ℕ) → sum_to places (has t) ≡ sizes t
      rows t = has_all t (λ y. ((own t y).0, λ j l. ((own t y).1 j l).1))

      pub own_fits_lem : (t : ℕ) → holder t ≡ true → Fits item size entry t
      own_fits_lem t y = (
        (own t y).0,
        λ j l m.
            let e = (own t y).1 j m in
            owned_item (entry t j) e.1 (rw e.0 (holder_below t y)),
      )

      pub own_once : Totals holder owner size → (t : ℕ) → holder t ≡ true → Once item owner size entry t
      own_once total t y r i =
          let whole : sum_to places (λ t. sum_to places (ought t)) ≤ sum_to places (λ t. sum_to places (has t)) =
          omega (arith, ought_all, total, sum_ext places (λ t. sum_to places (has t)) sizes (λ t l. rows t)) in
          let row : sum_to places (has t) ≡ sum_to places (ought t) =
          sum_pinched
          places
          (λ t. sum_to places (has t))
          (λ t. sum_to places (ought t))
          (λ t l. sum_le places (has t) (ought t) (λ r m. has_most t r))
          whole
          t
          (holder_below t y) in
          rw y at (sum_pinched places (has t) (ought t) (λ r m. has_most t r) (omega arith) r (item_below r i))

    -- and back
    module _
        (fits : (t : ℕ) → holder t ≡ true → Fits item size entry t)
        (once : (t : ℕ) → holder t ≡ true → Once item owner size entry t)
      where
        entry_item : (t j : ℕ) → holder t ≡ true → j < size t → item (entry t j) ≡ true
        entry_item t j y l = (fits t y).1 j (omega (arith, (fits t y).0)) l

        pub fits_own : (t : ℕ) → holder t ≡ true → Own owner size entry t
        fits_own t y = ((fits t y).0, λ j l. (mine j l, item_below _ (entry_item t j y l), apart j l))
          where
            count : (j : ℕ) → j < size t → times size entry t (entry t j) ≡ bit (eqb (owner (entry t j)) t)
            count j l = once t y (entry t j) (entry_item t j y l)

            mine : (j : ℕ) → j < size t → owner (entry t j) ≡ t
            mine j l =
                split
                (eqb (owner (entry t j)) t)
                (λ e. eqb-true _ _ e)
                (λ n.
                absurd
                (omega (
                  arith,
                  (fits t y).0,
                  ap bit n,
                  count j l,
                  count_some places j (has_at size entry t (entry t j)) (omega (arith, (fits t y).0)) (has_at_lem size entry t j l),
                )))

            apart : (j : ℕ) → j < size t → (k : ℕ) → k < j → entry t k ≡ entry t j → ⊥
            apart j l k m e =
                let same : k ≡ j =
                count_one_same
                places
                k
                j
                (has_at size entry t (entry t j))
                (omega (arith, count j l, bit_le (eqb (owner (entry t j)) t)))
                (omega (arith, (fits t y).0))
                (omega (arith, (fits t y).0))
                (and_both _ _ (lt-ltb k (size t) (omega arith)) (eq-eqb _ _ e))
                (has_at_lem size entry t j l) in
                omega arith

        pub fits_totals : Totals holder owner size
        fits_totals =
            sum_ext places sizes (λ t. sum_to places (has t)) (λ t l. sym (has_all t (λ y. ((fits t y).0, λ j m. item_below _ (entry_item t j y m)))))
            ∙ sum_ext places (λ t. sum_to places (has t)) (λ t. sum_to places (ought t)) (λ t l. sum_ext places (has t) (ought t) (λ r m. same t r l m))
            ∙ ought_all
          where
            same : (t r : ℕ) → t < places → r < places → has t r ≡ ought t r
            same t r l m = split (holder t) (λ y. rw y (alike y)) (λ n. rw n)
              where
                alike : holder t ≡ true → times size entry t r ≡ bit (eqb (owner r) t)
                alike y =
                    split
                    (item r)
                    (λ i. once t y r i)
                    (λ n.
                    times_none size entry t r (λ j k e. holds_fails (ap item (sym e) ∙ entry_item t j y k) n)
                    ∙ sym
                    (ap bit (ne_eqb (owner r) t (λ e. holds_fails (owned_item r m (rw e l)) n))))
