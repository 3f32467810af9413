-- What was answered at a place is answered at the place that it goes to. Assumes nothing.
use mathlib.Core.Path.{◌≡◌, refl, sym, ◌∙◌, ap}
use mathlib.Core.Bool.{Bool}
use mathlib.Core.List.{List, [], ◌∷◌}
use mathlib.Core.Option.{some}
use Prim.Native.Nat.{ℕ, zero, suc}
use native.Mathlib.Omega.{arith}
use lib.ListN.{get_elem? as at}
use Rattle.laws.proofs.Cases.{none_some}
use Rattle.reordering.specs.Order.{Kind}
use Rattle.reordering.specs.Place.{Matching}
use Rattle.reordering.specs.Run.{after, log, Never}
use Rattle.reordering.specs.Machine.{Commute, Laws}
use Rattle.reordering.proofs.Reorder.{like_free, reorder}
use Rattle.reordering.proofs.Match.{Before, remove, skip, down, place, before, up, rest_matching, matching_reordered}

-- what stands under a common first entry
cons_skip
    : {E : Type 0} (x y : E) (xs ys : List E) (p : ℕ)
    → x ≡ y
    → ((j : ℕ) → at xs (skip p j) ≡ at ys j)
    → (j : ℕ)
    → at (x ∷ xs) (skip (suc p) j) ≡ at (y ∷ ys) j
cons_skip x y xs ys p q h zero = ap some q
cons_skip x y xs ys p q h (suc j) = h j

-- the event of a log's entry is the list's
log_at : {State Event Answer : Type 0} (step : State → Event → Answer × State) (s : State) (xs : List Event) (i : ℕ) (r : Event × Answer)
    → at (log step s xs) i ≡ some r → at xs i ≡ some r.0
unfolding log
log_at step s [] i r h = none_some h
log_at step s (x ∷ xs) zero r h = cc
log_at step s (x ∷ xs) (suc i) r h = log_at step (step s x).1 xs i r h

module _
    {State Event Answer : Type 0}
    {kind : Event → Kind}
    {step free : State → Event → Answer × State}
    {refused : Answer → Bool}
    {Good : State → Type 0}
    (laws : Laws kind step free refused Good)
  where
    -- an event that is apart from all before it gets the answer that it gets first, and the others get theirs
    bring_log
        : (s : State)
        → Good s
        → (e : Event) (p : ℕ) (ys : List Event)
        → at ys p ≡ some e
        → Before kind e p ys
        → (at (log free s ys) p ≡ some (e, (free s e).0)) ×
        ((j : ℕ) → at (log free s ys) (skip p j) ≡ at (log free (free s e).1 (remove p ys)) j)
    unfolding log Before
    bring_log s g e p [] h b = none_some h
    bring_log s g e zero (y ∷ ys) h b = let q : y ≡ e = cc in (rw q, λ j. rw q)
    bring_log s g e (suc p) (y ∷ ys) h b =
        let c : Commute free s e y = laws.commute s e y g (b 0 y (omega arith) refl) in
        let i : (at (log free (free s y).1 ys) p ≡ some (e, (free (free s y).1 e).0)) ×
        ((j : ℕ) → at (log free (free s y).1 ys) (skip p j) ≡ at (log free (free (free s y).1 e).1 (remove p ys)) j) =
        bring_log (free s y).1 (laws.keeps s y g) e p ys h (λ j d l k. b (suc j) d (omega arith) k) in (
          rw (← c.first) i.0,
          cons_skip _ _ (log free (free s y).1 ys) (log free (free (free s e).1 y).1 (remove p ys)) p
              (ap (λ a. (y, a)) (sym c.second))
              (rw (← c.state) at i.1),
        )

    -- a free run answers at the place it goes to what it answers at the place it comes from
    free_places
        : (s : State)
        → Good s
        → (xs ys : List Event) (m : Matching kind xs ys)
        → (i : ℕ) (r : Event × Answer)
        → at (log free s xs) i ≡ some r
        → at (log free s ys) (m.to i) ≡ some r
    unfolding log rest_matching
    free_places s g [] ys m i r h = none_some h
    free_places s g (e ∷ es) ys m zero r h = (bring_log s g e (m.to 0) ys (place kind e es ys m) (before kind e es ys m)).0 ∙ h
    free_places s g (e ∷ es) ys m (suc i) r h =
        ap (at (log free s ys)) (sym (up kind e es ys m i r.0 (log_at free (free s e).1 es i r h)))
        ∙ (bring_log s g e (m.to 0) ys (place kind e es ys m) (before kind e es ys m)).1 (down (m.to 0) (m.to (suc i)))
        ∙ free_places (free s e).1 (laws.keeps s e g) es (remove (m.to 0) ys) (rest_matching kind e es ys m) i r h

    -- the reordering theorem by places
    pub reorder_places
        : (s : State)
        → Good s
        → (xs ys : List Event) (m : Matching kind xs ys)
        → Never refused (log step s xs)
        → Never refused (log step s ys)
        → ((i : ℕ) (r : Event × Answer) → at (log step s xs) i ≡ some r → at (log step s ys) (m.to i) ≡ some r) ×
        (after step s xs ≡ after step s ys)
    reorder_places s g xs ys m n k = (
      λ i r h. ap (λ (l : List (Event × Answer)). at l (m.to i)) (like_free laws s g ys k).0
          ∙ free_places s g xs ys m i r (ap (λ (l : List (Event × Answer)). at l i) (sym (like_free laws s g xs n).0) ∙ h),
      (reorder laws s g xs ys (matching_reordered kind xs ys m) n k).1,
    )
