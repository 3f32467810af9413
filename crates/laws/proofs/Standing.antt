-- Items that stand in boxes: each item stands once in the box that it points to, and nowhere else, and only items in use stand anywhere. A stack of
-- resources with their owners is this, and a queue of tasks with what they wait for is this too. A box is the first `size` of a fixed number of
-- places, one more than `top`; an item that points nowhere points to that number. Kept are: one item put into a box (`put_standing`), one taken out
-- (`taken_standing`), said by how often each item stands in that box, which is `count_put` where a last place is filled or given up and `count_shift`
-- where the first is given up and the others move on. Where an item does not stand a box has room: the pigeonhole law. Assumes nothing.
use Rattle.std.specs.Prelude.{if◌then◌else◌}
use mathlib.Core.Path.{◌≡◌, refl, sym, ap, subst, ◌∙◌}
use mathlib.Core.Bool.{Bool, true, false, ◌&&◌}
use Prim.Native.Nat.{ℕ, zero, suc, ◌+◌, ◌<◌, ◌≤◌}
use native.Mathlib.Omega.{arith}
use lib.Dec.{ltb, eqb}
use borrow.Author.Tests.{ltb-true, ltb-false, lt-ltb, le-ltb, eqb-true, eqb-false, eq-eqb, ne_eqb}
use Rattle.laws.specs.Tests.{bit}
use Rattle.laws.specs.Loops.{count_to}
use Rattle.laws.proofs.Cases.{split, holds_fails, and_both}
use Rattle.laws.proofs.Count.{bit_le, count_ext, count_but_one, count_zero, zero_count, count_one_same}
use Rattle.laws.proofs.Pigeonhole.{distinct_fewer}

-- place j is one of the first n, and has v
abbrev pub at : ℕ → (ℕ → ℕ) → ℕ → ℕ → Bool
at n entry v j = ltb j n && eqb (entry j) v

at_in : (n : ℕ) (entry : ℕ → ℕ) (v j : ℕ) → j < n → at n entry v j ≡ eqb (entry j) v
at_in n entry v j l = rw (lt-ltb j n l)

at_out : (n : ℕ) (entry : ℕ → ℕ) (v j : ℕ) → n ≤ j → at n entry v j ≡ false
at_out n entry v j l = rw (le-ltb j n l)

-- places that are in use together and have the same
at_both
    : (n m : ℕ) (old new : ℕ → ℕ) (v j k : ℕ) → (j < n → (k < m) × (new k ≡ old j)) → (n ≤ j → m ≤ k) → at m new v k ≡ at n old v j
at_both n m old new v j k within past =
    split
    (ltb j n)
    (λ y. let z = within (ltb-true j n y) in at_in m new v k z.0 ∙ ap (λ a. eqb a v) z.1 ∙ sym (at_in n old v j (ltb-true j n y)))
    (λ f. let z = ltb-false j n f in at_out m new v k (past z) ∙ sym (at_out n old v j z))

count_first : (n : ℕ) (p : ℕ → Bool) → count_to (suc n) p ≡ bit (p 0) + count_to n (λ j. p (suc j))
unfolding count_to
count_first zero p = omega arith
count_first (suc n) p = omega (arith, count_first n p)

module _ (top : ℕ) where
  -- the first n places are within the array, and what stands in them passes the test
  abbrev pub Filled : (ℕ → Bool) → ℕ → (ℕ → ℕ) → Type 0
  Filled p n entry = (n ≤ suc top) × ((j : ℕ) → j < suc top → j < n → p (entry j) ≡ true)

  -- how often v stands in the first n places
  abbrev pub times : ℕ → (ℕ → ℕ) → ℕ → ℕ
  times n entry v = count_to (suc top) (at n entry v)

  -- one place more
  pub filled_put
      : (p : ℕ → Bool) (n m : ℕ) (old new : ℕ → ℕ) → n < suc top → m ≡ n + 1 → ((j : ℕ) → j < n → new j ≡ old j)
      → Filled p n old → p (new n) ≡ true → Filled p m new
  filled_put p n m old new l e same f h = (
    omega arith,
    λ j k d.
        split (eqb j n) (λ y. rw (eqb-true j n y) h) (λ x. let b : j < n = omega (arith, eqb-false j n x) in ap p (same j b) ∙ f.1 j k b),
  )

  pub count_put
      : (n m : ℕ) (old new : ℕ → ℕ) (v : ℕ) → n < suc top → m ≡ n + 1 → ((j : ℕ) → j < n → new j ≡ old j)
      → times m new v ≡ times n old v + bit (eqb (new n) v)
  count_put n m old new v l e same =
      let k = count_but_one (suc top) n (at m new v) (at n old v) l
      (λ j h x. at_both n m old new v j j (λ y. (omega arith, same j y)) (λ y. omega (arith, x))) in
      omega (arith, k, ap bit (at_in m new v n (omega arith)), ap bit (at_out n old v n (omega arith)))

  -- the first is given up
  pub count_shift
      : (n m : ℕ) (old new : ℕ → ℕ) (v : ℕ) → n < suc top → m ≡ n + 1 → ((j : ℕ) → j < n → new j ≡ old (suc j))
      → times m old v ≡ times n new v + bit (eqb (old 0) v)
  unfolding count_to
  count_shift n m old new v l e same =
      let whole : times m old v ≡ bit (at m old v 0) + count_to top (λ j. at m old v (suc j)) = count_first top (at m old v) in
      let last : times n new v ≡ count_to top (at n new v) + bit (at n new v top) = refl in
      let rest : count_to top (λ j. at m old v (suc j)) ≡ count_to top (at n new v) =
      count_ext top _ _ (λ j h. at_both n m new old v j (suc j) (λ y. (omega arith, sym (same j y))) (λ y. omega arith)) in
      omega (arith, whole, last, rest, ap bit (at_in m old v 0 (omega arith)), ap bit (at_out n new v top (omega arith)))

-- items and boxes in use, each box's size and entries, whether an item points and to which box, and whether it may stand there
pub record Standing
    (top : ℕ) (item box : ℕ → Bool) (size : ℕ → ℕ) (entry : ℕ → ℕ → ℕ) (points : ℕ → Bool) (to : ℕ → ℕ) (may : ℕ → ℕ → Bool) : Type 0 where
  pub filled : (b : ℕ) → box b ≡ true → Filled top item (size b) (entry b)
  pub inside : (a : ℕ) → item a ≡ true → points a ≡ true → box (to a) ≡ true
  pub agree : (b a : ℕ) → box b ≡ true → item a ≡ true → times top (size b) (entry b) a ≡ bit (eqb (to a) b)
  pub allowed : (b a : ℕ) → box b ≡ true → item a ≡ true → to a ≡ b → may b a ≡ true

-- what looks the same stands the same
pub same_standing
    : {top : ℕ} {item box points item' box' points' : ℕ → Bool} {size to size' to' : ℕ → ℕ} {entry entry' : ℕ → ℕ → ℕ} {may may' : ℕ → ℕ → Bool}
    → ((a : ℕ) → item a ≡ item' a) → ((b : ℕ) → box b ≡ box' b) → ((b : ℕ) → size b ≡ size' b) → ((b j : ℕ) → entry b j ≡ entry' b j)
    → ((a : ℕ) → points a ≡ points' a) → ((a : ℕ) → to a ≡ to' a) → ((b a : ℕ) → may b a ≡ may' b a)
    → Standing top item box size entry points to may → Standing top item' box' size' entry' points' to' may'
same_standing {top} p q s e o t m old =
    subst (λ T. T)
    (λ i. Standing top (λ a. p a i) (λ b. q b i) (λ b. s b i) (λ b j. e b j i) (λ a. o a i) (λ a. t a i) (λ b a. m b a i))
    old

module _
    {top : ℕ} {item box points : ℕ → Bool} {size to : ℕ → ℕ} {entry : ℕ → ℕ → ℕ} {may : ℕ → ℕ → Bool}
    (old : Standing top item box size entry points to may) (below : (b : ℕ) → box b ≡ true → b < suc top)
  where
    -- what stands in a box points to it, and a box that is pointed to is not empty
    pub stands_points : (b j : ℕ) → box b ≡ true → j < size b → to (entry b j) ≡ b
    stands_points b j h l =
        let k : j < suc top = omega (arith, (old.filled b h).0) in
        split
        (eqb (to (entry b j)) b)
        (λ y. eqb-true _ b y)
        (λ n.
        holds_fails (and_both (ltb j (size b)) _ (lt-ltb j (size b) l) (eq-eqb (entry b j) _ refl))
        (zero_count (suc top) j (at (size b) (entry b) (entry b j)) (old.agree b (entry b j) h ((old.filled b h).1 j k l) ∙ ap bit n) k))

    pub points_some : (b a : ℕ) → box b ≡ true → item a ≡ true → to a ≡ b → 0 < size b
    points_some b a h k e =
        split
        (ltb 0 (size b))
        (λ y. ltb-true _ _ y)
        (λ n.
        let z : times top (size b) (entry b) a ≡ 0 =
        count_zero (suc top) (at (size b) (entry b) a) (λ j l. at_out (size b) (entry b) a j (omega (arith, ltb-false 0 (size b) n))) in
        absurd (omega (arith, z, old.agree b a h k, ap bit (eq-eqb (to a) b e))))

    -- where an item does not stand there is room
    pub standing_room : ((a : ℕ) → item a ≡ true → a < suc top) → (b a : ℕ) → box b ≡ true → item a ≡ true → (to a ≡ b → ⊥) → size b < suc top
    standing_room short b a h k n =
        let f = old.filled b h in
        distinct_fewer (size b) (suc top) a (entry b)
        (λ i l. short (entry b i) (f.1 i (omega (arith, f.0)) l))
        (λ i j l m e.
        let u = f.1 j (omega (arith, f.0)) m in
        let once : times top (size b) (entry b) (entry b j) ≤ 1 = rw (old.agree b (entry b j) h u) (bit_le (eqb (to (entry b j)) b)) in
        let p = and_both (ltb i (size b)) _ (lt-ltb i (size b) (omega arith)) (eq-eqb (entry b i) (entry b j) e) in
        let q = and_both (ltb j (size b)) _ (lt-ltb j (size b) m) (eq-eqb (entry b j) (entry b j) refl) in
        let s : i ≡ j = count_one_same (suc top) i j (at (size b) (entry b) (entry b j)) once (omega (arith, f.0)) (omega (arith, f.0)) p q in
        omega arith)
        (short a k)
        (λ i l e. n (ap to (sym e) ∙ stands_points b i h l))

    -- Item i comes to point to `goal`, and only box c changes: it gains `more` of each item and loses `less`.
    module _
        {points' : ℕ → Bool} {size' to' : ℕ → ℕ} {entry' : ℕ → ℕ → ℕ} {may' : ℕ → ℕ → Bool} (i c : ℕ)
        (fills : Filled top item (size' c) (entry' c))
        (others : (b : ℕ) → (b ≡ c → ⊥) → (size' b ≡ size b) × ((j : ℕ) → entry' b j ≡ entry b j))
        (points_is : (a : ℕ) → (a ≡ i → ⊥) → points' a ≡ points a) (may-is : (b a : ℕ) → may' b a ≡ may b a)
      where
        module _
            (goal : ℕ) (more less : ℕ → ℕ) (to_is : (a : ℕ) → to' a ≡ (if eqb a i then goal else to a))
            (count : (a : ℕ) → times top (size' c) (entry' c) a + less a ≡ times top (size c) (entry c) a + more a)
            (quiet : (a : ℕ) → (a ≡ i → ⊥) → (more a ≡ 0) × (less a ≡ 0)) (swap : bit (eqb (to i) c) + more i ≡ bit (eqb goal c) + less i)
            (apart : (b : ℕ) → box b ≡ true → (b ≡ c → ⊥) → (to i ≡ b → ⊥) × (goal ≡ b → ⊥))
          where
            agrees : (b a : ℕ) → box b ≡ true → item a ≡ true → times top (size' b) (entry' b) a ≡ bit (eqb (if eqb a i then goal else to a) b)
            agrees b a h k =
                let was = old.agree b a h k in
                split
                (eqb b c)
                (λ f.
                let z = eqb-true b c f in
                let d = count a in
                let w : times top (size c) (entry c) a ≡ bit (eqb (to a) c) = rw z at was in
                rw z
                (split
                (eqb a i)
                (λ e. let q = eqb-true a i e in rw e (omega (arith, d, w, swap, ap more q, ap less q, ap (λ y. bit (eqb (to y) c)) q)))
                (λ n. let q = quiet a (eqb-false a i n) in rw n (omega (arith, d, w, q.0, q.1)))))
                (λ f.
                let n = eqb-false b c f in
                let o = others b n in
                let same : times top (size' b) (entry' b) a ≡ times top (size b) (entry b) a = rw o.0 (count_ext (suc top) _ _ (λ j l. rw (o.1 j))) in
                same
                ∙ was
                ∙ split (eqb a i) (λ e. rw (e, eqb-true a i e, ne_eqb (to i) b (apart b h n).0, ne_eqb goal b (apart b h n).1)) (λ e. rw e))

            moved_standing : (points' i ≡ true → box goal ≡ true) → (box goal ≡ true → may goal i ≡ true) → Standing top item box size' entry' points' to' may'
            moved_standing at-goal allows = record {
              filled = λ b h.
                  split
                  (eqb b c)
                  (λ y. rw (eqb-true b c y) fills)
                  (λ n. let o = others b (eqb-false b c n) in rw o.0 ((old.filled b h).0, λ j k d. ap item (o.1 j) ∙ (old.filled b h).1 j k d));
              inside = λ a h p.
                  rw (to_is a)
                  (split
                  (eqb a i)
                  (λ y. rw y (at-goal (ap points' (sym (eqb-true a i y)) ∙ p)))
                  (λ n. rw n (old.inside a h (sym (points_is a (eqb-false a i n)) ∙ p))));
              agree = λ b a h k. agrees b a h k ∙ ap (λ z. bit (eqb z b)) (sym (to_is a));
              allowed = λ b a h k e.
                  may-is b a
                  ∙ split
                  (eqb a i)
                  (λ y. let z : goal ≡ b = rw y at (sym (to_is a) ∙ e) in rw (eqb-true a i y, ← z) (allows (rw z h)))
                  (λ n. old.allowed b a h k (rw n at (sym (to_is a) ∙ e)));
            }

        -- i, which points nowhere, is put into c
        pub put_standing
            : box c ≡ true → ((a : ℕ) → to' a ≡ (if eqb a i then c else to a)) → to i ≡ suc top → may c i ≡ true
            → ((a : ℕ) → times top (size' c) (entry' c) a ≡ times top (size c) (entry c) a + bit (eqb i a))
            → Standing top item box size' entry' points' to' may'
        put_standing known to_is none ok count =
            moved_standing c (λ a. bit (eqb i a)) (λ a. 0) to_is
            (λ a. omega (arith, count a))
            (λ a n. (ap bit (ne_eqb i a (λ e. n (sym e))), refl))
            (omega (arith, ap bit (eq-eqb i i refl), ap bit (eq-eqb c c refl), ap bit (ne_eqb (to i) c (λ e. omega (arith, below c known)))))
            (λ b h n. (λ e. omega (arith, below b h), λ e. n (sym e)))
            (λ p. known) (λ h. ok)

        -- i is taken out of c
        pub taken_standing
            : box c ≡ true → ((a : ℕ) → to' a ≡ (if eqb a i then suc top else to a)) → to i ≡ c → points' i ≡ false
            → ((a : ℕ) → times top (size c) (entry c) a ≡ times top (size' c) (entry' c) a + bit (eqb i a))
            → Standing top item box size' entry' points' to' may'
        taken_standing known to_is there off count =
            moved_standing (suc top) (λ a. 0) (λ a. bit (eqb i a)) to_is
            (λ a. omega (arith, count a))
            (λ a n. (refl, ap bit (ne_eqb i a (λ e. n (sym e)))))
            (omega (arith, ap bit (eq-eqb i i refl), ap bit (eq-eqb (to i) c there), ap bit (ne_eqb (suc top) c (λ e. omega (arith, below c known)))))
            (λ b h n. (λ e. n (sym e ∙ there), λ e. omega (arith, below b h)))
            (λ p. holds_fails p off) (λ h. absurd (omega (arith, below (suc top) h)))
