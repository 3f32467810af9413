-- The two ways to say what a reordering is, by what each group sees and by places, are one. Assumes nothing.
use mathlib.Core.Path.{◌≡◌, refl, sym, ◌∙◌, ap, subst}
use mathlib.Core.Logic.{◌⊎◌, inl, inr, ⊎_elim}
use mathlib.Core.List.{List, [], ◌∷◌}
use mathlib.Core.Option.{some}
use Prim.Native.Nat.{ℕ, zero, suc, pred, ◌<◌, ◌≤◌}
use native.Mathlib.Omega.{arith}
use native.Mathlib.Nat.{suc-pred-eq_of_ne-zero}
use lib.ListN.{get_elem? as at}
use Rattle.laws.proofs.Cases.{none_some}
use Rattle.laws.proofs.Reflect.{reflects_dec, reflects_eq}
use Rattle.reordering.specs.Order.{Kind, time, group, Apart, Reordered}
use Rattle.reordering.specs.Place.{Bound, Matching}
use Rattle.reordering.proofs.Swap.{Swaps, same, front, swap, next, swaps_reordered, reordered_swaps}

-- of two events the order is kept, or they are of two groups, and not both
bound_or_apart : (j k : Kind) → Bound j k ⊎ Apart j k
bound_or_apart time k = inl tt
bound_or_apart (group g) time = inl tt
bound_or_apart (group g) (group h) = reflects_dec (reflects_eq g h)

not_bound : (j k : Kind) → Apart j k → Bound j k → ⊥
not_bound time k a b = a
not_bound (group g) time a b = a
not_bound (group g) (group h) a b = a b

-- the places of the first two swapped
abbrev turn : ℕ → ℕ
turn zero = 1
turn (suc zero) = 0
turn (suc (suc i)) = suc (suc i)

turn_turn : (i : ℕ) → turn (turn i) ≡ i
turn_turn zero = refl
turn_turn (suc zero) = refl
turn_turn (suc (suc i)) = refl

-- a map of places under a common first event
abbrev lift : (ℕ → ℕ) → ℕ → ℕ
lift f zero = zero
lift f (suc i) = suc (f i)

-- the list without what stands at a place
abbrev pub remove : {E : Type 0} → ℕ → List E → List E
remove p [] = []
remove zero (y ∷ ys) = ys
remove (suc p) (y ∷ ys) = y ∷ remove p ys

-- the place before the removal, from the place after it; and back
abbrev pub skip : ℕ → ℕ → ℕ
skip zero j = suc j
skip (suc p) zero = zero
skip (suc p) (suc j) = suc (skip p j)

abbrev pub down : ℕ → ℕ → ℕ
down zero j = pred j
down (suc p) zero = zero
down (suc p) (suc j) = suc (down p j)

skip_cases : (p j : ℕ) → ((j < p) × (skip p j ≡ j)) ⊎ ((p ≤ j) × (skip p j ≡ suc j))
skip_cases zero j = inr (omega arith, refl)
skip_cases (suc p) zero = inl (omega arith, refl)
skip_cases (suc p) (suc j) = ⊎_elim (λ h. inl (omega arith, ap suc h.1)) (λ h. inr (omega arith, ap suc h.1)) (skip_cases p j)

skip_ne : (p j : ℕ) → skip p j ≡ p → ⊥
skip_ne p j e = ⊎_elim (λ h. omega arith) (λ h. omega arith) (skip_cases p j)

pub down_skip : (p j : ℕ) → down p (skip p j) ≡ j
down_skip zero j = refl
down_skip (suc p) zero = refl
down_skip (suc p) (suc j) = ap suc (down_skip p j)

skip_down : (p j : ℕ) → (j ≡ p → ⊥) → skip p (down p j) ≡ j
skip_down zero j n = suc-pred-eq_of_ne-zero n
skip_down (suc p) zero n = refl
skip_down (suc p) (suc j) n = ap suc (skip_down p j (λ e. n (ap suc e)))

pub at_remove : {E : Type 0} (p : ℕ) (ys : List E) (j : ℕ) → at (remove p ys) j ≡ at ys (skip p j)
at_remove p [] j = refl
at_remove zero (y ∷ ys) j = refl
at_remove (suc p) (y ∷ ys) zero = refl
at_remove (suc p) (y ∷ ys) (suc j) = at_remove p ys j

pub skip_less : (p i j : ℕ) → skip p i < skip p j → i < j
skip_less p i j h =
    ⊎_elim
    (λ a. ⊎_elim (λ b. omega arith) (λ b. omega arith) (skip_cases p j))
    (λ a. ⊎_elim (λ b. omega arith) (λ b. omega arith) (skip_cases p j))
    (skip_cases p i)

module _ {E : Type 0} (kind : E → Kind) where
  -- e is apart from all that stands before the place p of ys
  unfoldable pub Before : E → ℕ → List E → Type 0
  Before e p ys = (j : ℕ) (b : E) → j < p → at ys j ≡ some b → Apart (kind e) (kind b)

  -- and so comes from that place to the front by swaps
  bring_place : (e : E) (p : ℕ) (ys : List E) → at ys p ≡ some e → Before e p ys → Swaps kind (e ∷ remove p ys) ys
  unfolding Before
  bring_place e p [] h b = none_some h
  bring_place e zero (y ∷ ys) h b = let q : y ≡ e = cc in rw q same
  bring_place e (suc p) (y ∷ ys) h b =
      next
      (swap e y (b 0 y (omega arith) refl))
      (front y (bring_place e p ys h (λ j c l k. b (suc j) c (omega arith) k)))

  module _ (e : E) (es ys : List E) (m : Matching kind (e ∷ es) ys) where
    -- the place of the first event
    pub place : at ys (m.to 0) ≡ some e
    place = m.there 0 e refl

    -- the places that go elsewhere
    to_ne : (i : ℕ) (a : E) → at es i ≡ some a → m.to (suc i) ≡ m.to 0 → ⊥
    to_ne i a h q = omega (arith, m.from_to 0 e refl, m.from_to (suc i) a h, ap m.from q)

    from_ne : (j : ℕ) (b : E) → at ys j ≡ some b → (j ≡ m.to 0 → ⊥) → m.from j ≡ 0 → ⊥
    from_ne j b h n q = n (sym (m.to_from j b h) ∙ ap m.to q)

    -- what stands before that place goes there from later, so its order with e was not to be kept
    pub before : Before e (m.to 0) ys
    unfolding Before
    before j b l h =
        ⊎_elim
        (λ x.
        let n : m.from j ≡ 0 → ⊥ = from_ne j b h (λ q. omega arith) in
        let o : m.to 0 < m.to (m.from j) = m.order 0 (m.from j) e b (omega arith) refl (m.back j b h) x in
        absurd (omega (arith, m.to_from j b h)))
        (λ x. x)
        (bound_or_apart (kind e) (kind b))

    -- the matching of what is left
    pub kept : (j : ℕ) (b : E) → at (remove (m.to 0) ys) j ≡ some b → at ys (skip (m.to 0) j) ≡ some b
    kept j b h = sym (at_remove (m.to 0) ys j) ∙ h

    pub later : (j : ℕ) (b : E) → at ys (skip (m.to 0) j) ≡ some b → suc (pred (m.from (skip (m.to 0) j))) ≡ m.from (skip (m.to 0) j)
    later j b h = suc-pred-eq_of_ne-zero (from_ne (skip (m.to 0) j) b h (skip_ne (m.to 0) j))

    pub up : (i : ℕ) (a : E) → at es i ≡ some a → skip (m.to 0) (down (m.to 0) (m.to (suc i))) ≡ m.to (suc i)
    up i a h = skip_down (m.to 0) (m.to (suc i)) (to_ne i a h)

    unfoldable pub rest_matching : Matching kind es (remove (m.to 0) ys)
    rest_matching =
        record {
          to = λ i. down (m.to 0) (m.to (suc i));
          from = λ j. pred (m.from (skip (m.to 0) j));
          there = λ i a h. at_remove (m.to 0) ys _ ∙ ap (at ys) (up i a h) ∙ m.there (suc i) a h;
          back = λ j b h. subst (λ (k : ℕ). at (e ∷ es) k ≡ some b) (sym (later j b (kept j b h))) (m.back _ b (kept j b h));
          from_to = λ i a h. ap (λ (k : ℕ). pred (m.from k)) (up i a h) ∙ ap pred (m.from_to (suc i) a h);
          to_from = λ j b h. ap (λ (k : ℕ). down (m.to 0) (m.to k)) (later j b (kept j b h))
              ∙ ap (down (m.to 0)) (m.to_from _ b (kept j b h))
              ∙ down_skip (m.to 0) j;
          order = λ i j a b l h k x.
              skip_less (m.to 0) _ _ (omega (arith, up i a h, up j b k, m.order (suc i) (suc j) a b (omega arith) h k x));
        }

  -- a matching is made of swaps
  pub matching_swaps : (xs ys : List E) → Matching kind xs ys → Swaps kind xs ys
  matching_swaps [] [] m = same
  matching_swaps [] (y ∷ ys) m = none_some (m.back 0 y refl)
  matching_swaps (e ∷ es) ys m =
      next
      (front e (matching_swaps es (remove (m.to 0) ys) (rest_matching e es ys m)))
      (bring_place e (m.to 0) ys (place e es ys m) (before e es ys m))

  turn_there : (a b : E) (xs : List E) (i : ℕ) (e : E) → at (a ∷ b ∷ xs) i ≡ some e → at (b ∷ a ∷ xs) (turn i) ≡ some e
  turn_there a b xs zero e h = h
  turn_there a b xs (suc zero) e h = h
  turn_there a b xs (suc (suc i)) e h = h

  module _ (a b : E) (xs : List E) (n : Apart (kind a) (kind b)) where
    turn_order : (i j : ℕ) (c d : E) → i < j → at (a ∷ b ∷ xs) i ≡ some c → at (a ∷ b ∷ xs) j ≡ some d → Bound (kind c) (kind d) → turn i < turn j
    turn_order zero zero c d l h k x = absurd (omega arith)
    turn_order zero (suc zero) c d l h k x =
        let p : c ≡ a = cc in
        let q : d ≡ b = cc in
        absurd (not_bound (kind a) (kind b) n (rw (p, q) at x))
    turn_order zero (suc (suc j)) c d l h k x = omega arith
    turn_order (suc zero) zero c d l h k x = absurd (omega arith)
    turn_order (suc zero) (suc zero) c d l h k x = absurd (omega arith)
    turn_order (suc zero) (suc (suc j)) c d l h k x = omega arith
    turn_order (suc (suc i)) zero c d l h k x = absurd (omega arith)
    turn_order (suc (suc i)) (suc zero) c d l h k x = absurd (omega arith)
    turn_order (suc (suc i)) (suc (suc j)) c d l h k x = l

  -- each way of swapping is a matching
  turned : (a b : E) (xs : List E) → Apart (kind a) (kind b) → Matching kind (a ∷ b ∷ xs) (b ∷ a ∷ xs)
  turned a b xs n =
      record {
        to = turn;
        from = turn;
        there = turn_there a b xs;
        back = turn_there b a xs;
        from_to = λ i e h. turn_turn i;
        to_from = λ i e h. turn_turn i;
        order = turn_order a b xs n;
      }

  module _ (e : E) (xs ys : List E) (m : Matching kind xs ys) where
    lift_there : (i : ℕ) (a : E) → at (e ∷ xs) i ≡ some a → at (e ∷ ys) (lift m.to i) ≡ some a
    lift_there zero a h = h
    lift_there (suc i) a h = m.there i a h

    lift_back : (i : ℕ) (a : E) → at (e ∷ ys) i ≡ some a → at (e ∷ xs) (lift m.from i) ≡ some a
    lift_back zero a h = h
    lift_back (suc i) a h = m.back i a h

    lift_from_to : (i : ℕ) (a : E) → at (e ∷ xs) i ≡ some a → lift m.from (lift m.to i) ≡ i
    lift_from_to zero a h = refl
    lift_from_to (suc i) a h = ap suc (m.from_to i a h)

    lift_to_from : (i : ℕ) (a : E) → at (e ∷ ys) i ≡ some a → lift m.to (lift m.from i) ≡ i
    lift_to_from zero a h = refl
    lift_to_from (suc i) a h = ap suc (m.to_from i a h)

    lift_order
        : (i j : ℕ) (a b : E) → i < j → at (e ∷ xs) i ≡ some a → at (e ∷ xs) j ≡ some b → Bound (kind a) (kind b) → lift m.to i < lift m.to j
    lift_order zero zero a b l h k x = absurd (omega arith)
    lift_order zero (suc j) a b l h k x = omega arith
    lift_order (suc i) zero a b l h k x = absurd (omega arith)
    lift_order (suc i) (suc j) a b l h k x = omega (arith, m.order i j a b (omega arith) h k x)

    lifted : Matching kind (e ∷ xs) (e ∷ ys)
    lifted =
        record {
          to = lift m.to;
          from = lift m.from;
          there = lift_there;
          back = lift_back;
          from_to = lift_from_to;
          to_from = lift_to_from;
          order = lift_order;
        }

  unmoved : (xs : List E) → Matching kind xs xs
  unmoved xs =
      record {
        to = λ i. i;
        from = λ i. i;
        there = λ i e h. h;
        back = λ i e h. h;
        from_to = λ i e h. refl;
        to_from = λ i e h. refl;
        order = λ i j a b l h k x. l;
      }

  composed : (xs ys zs : List E) → Matching kind xs ys → Matching kind ys zs → Matching kind xs zs
  composed xs ys zs m n =
      record {
        to = λ i. n.to (m.to i);
        from = λ i. m.from (n.from i);
        there = λ i e h. n.there (m.to i) e (m.there i e h);
        back = λ i e h. m.back (n.from i) e (n.back i e h);
        from_to = λ i e h. ap m.from (n.from_to (m.to i) e (m.there i e h)) ∙ m.from_to i e h;
        to_from = λ i e h. ap n.to (m.to_from (n.from i) e (n.back i e h)) ∙ n.to_from i e h;
        order = λ i j a b l h k x. n.order (m.to i) (m.to j) a b (m.order i j a b l h k x) (m.there i a h) (m.there j b k) x;
      }

  -- swaps make a matching
  pub swaps_matching : {xs ys : List E} → Swaps kind xs ys → Matching kind xs ys
  swaps_matching {xs} same = unmoved xs
  swaps_matching (front e {xs = xs} {ys = ys} s) = lifted e xs ys (swaps_matching s)
  swaps_matching (swap a b {xs = xs} n) = turned a b xs n
  swaps_matching (next {xs = xs} {ys = ys} {zs = zs} s t) = composed xs ys zs (swaps_matching s) (swaps_matching t)

  -- the two ways are one
  pub matching_reordered : (xs ys : List E) → Matching kind xs ys → Reordered kind xs ys
  matching_reordered xs ys m = swaps_reordered kind (matching_swaps xs ys m)

  pub reordered_matching : (xs ys : List E) → Reordered kind xs ys → Matching kind xs ys
  reordered_matching xs ys r = swaps_matching (reordered_swaps kind xs ys r)
