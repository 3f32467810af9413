-- A reordering changes no answer and no last state, where no answer in either order is one that only the tests of processors give.
-- The way goes through `free`: between two orders that are never refused for a processor may lie only orders that are. Assumes nothing.
use mathlib.Core.Path.{◌≡◌, refl, sym, ◌∙◌, ap}
use mathlib.Core.Bool.{Bool}
use mathlib.Core.List.{List, [], ◌∷◌}
use Rattle.reordering.specs.Order.{Kind, Reordered}
use Rattle.reordering.specs.Run.{after, log, entry, Each, Never}
use Rattle.reordering.specs.Machine.{Commute, Laws}
use Rattle.reordering.proofs.Swap.{Swaps, same, front, swap, next, swaps_reordered, reordered_swaps}

module _
    {State Event Answer : Type 0}
    {kind : Event → Kind}
    {step free : State → Event → Answer × State}
    {refused : Answer → Bool}
    {Good : State → Type 0}
    (laws : Laws kind step free refused Good)
  where
    -- without refusals the run is the free run
    pub like_free
        : (s : State)
        → Good s
        → (xs : List Event)
        → Never refused (log step s xs)
        → (log step s xs ≡ log free s xs) × (after step s xs ≡ after free s xs)
    unfolding log after Each
    like_free s h [] n = (refl, refl)
    like_free s h (e ∷ es) n =
        let q : step s e ≡ free s e = laws.unlike s e h n.0 in
        let i : (log step (free s e).1 es ≡ log free (free s e).1 es) × (after step (free s e).1 es ≡ after free (free s e).1 es) =
        like_free (free s e).1 (laws.keeps s e h) es (rw q at n.1) in
        (rw (q, i.0) refl, rw (q, i.1) refl)

    -- swaps change nothing of a free run
    free_after : (s : State) → Good s → {xs ys : List Event} → Swaps kind xs ys → after free s xs ≡ after free s ys
    unfolding after
    free_after s h same = refl
    free_after s h (front e t) = free_after (free s e).1 (laws.keeps s e h) t
    free_after s h (swap a b {xs = xs} p) = ap (λ (u : State). after free u xs) (laws.commute s a b h p).state
    free_after s h (next t u) = free_after s h t ∙ free_after s h u

    free_log : (s : State) → Good s → {xs ys : List Event} → Swaps kind xs ys → Swaps (entry kind) (log free s xs) (log free s ys)
    unfolding log
    free_log s h same = same
    free_log s h (front e t) = front (e, (free s e).0) (free_log (free s e).1 (laws.keeps s e h) t)
    free_log s h (swap a b {xs = xs} p) =
        let c : Commute free s a b = laws.commute s a b h p in
        rw (c.first, c.second, c.state) (swap (a, (free s a).0) (b, (free s b).0) p)
    free_log s h (next t u) = next (free_log s h t) (free_log s h u)

    -- the reordering theorem: the logs are reordered alike, so each event gets its answer, and the last states are equal
    pub reorder
        : (s : State)
        → Good s
        → (xs ys : List Event)
        → Reordered kind xs ys
        → Never refused (log step s xs)
        → Never refused (log step s ys)
        → Reordered (entry kind) (log step s xs) (log step s ys) × (after step s xs ≡ after step s ys)
    reorder s h xs ys r m n =
        let t : Swaps kind xs ys = reordered_swaps kind xs ys r in (
          rw ((like_free s h xs m).0, (like_free s h ys n).0) (swaps_reordered (entry kind) (free_log s h t)),
          (like_free s h xs m).1 ∙ free_after s h t ∙ sym (like_free s h ys n).1,
        )
