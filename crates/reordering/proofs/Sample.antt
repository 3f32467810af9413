-- The small machine at work: two orders that are never refused 8, between which every way of swaps is; what does not count as a reordering; and
-- a deletion after which the counts of time differ. Assumes nothing.
use mathlib.Core.Path.{◌≡◌, refl, ap}
use mathlib.Core.List.{List, [], ◌∷◌, ◌++◌}
use mathlib.Core.Option.{some}
use Prim.Native.Nat.{ℕ}
use native.Mathlib.Omega.{arith}
use lib.ListN.{length, get_or, length-append, get_elem? as at}
use Rattle.laws.specs.Tests.{first_of}
use Rattle.laws.specs.Loops.{count_to, all_to, set_to}
use Rattle.reordering.specs.Order.{Apart, view, Reordered}
use Rattle.reordering.specs.Run.{after, log, entry, Each, told_log}
use Rattle.reordering.proofs.Swap.{front, swap, next, swaps_reordered}
use Rattle.reordering.proofs.Toy.{Config, Event, elapse, dispatch, release, Answer, done, ran, refusal, Unrefused, kind, in_use, busy, within, tests, verdict, step, fresh}
use Rattle.reordering.proofs.ToyReorder.{toy_reorder}
use Rattle.reordering.proofs.ToyDelete.{Fine, told, toy_delete}

-- two tasks, each a group, and one processor
abbrev two : Config
two = record { n = 2; processors = 1; limit = 9; group_of = λ t. t }

abbrev xs : List Event
xs = elapse 1 ∷ dispatch 0 ∷ release 0 ∷ dispatch 1 ∷ release 1 ∷ []

abbrev ys : List Event
ys = elapse 1 ∷ dispatch 1 ∷ release 1 ∷ dispatch 0 ∷ release 0 ∷ []

abbrev logged : List Event → List (Event × Answer)
logged = log (step two) (fresh two)

done_refusal : {r : ℕ} → done ≡ refusal r → ⊥
done_refusal q = let z : ◌≡◌ {A = ℕ} 0 1 = cc in omega arith

ran_refusal : {k r : ℕ} → ran k ≡ refusal r → ⊥
ran_refusal q = let z : ◌≡◌ {A = ℕ} 0 1 = cc in omega arith

xs_fine : Unrefused 8 (logged xs)
unfolding Each log fresh verdict tests first_of in_use busy within count_to all_to set_to
xs_fine = (ran_refusal, (done_refusal, (done_refusal, (done_refusal, (done_refusal, tt)))))

ys_fine : Unrefused 8 (logged ys)
unfolding Each log fresh verdict tests first_of in_use busy within count_to all_to set_to
ys_fine = (ran_refusal, (done_refusal, (done_refusal, (done_refusal, (done_refusal, tt)))))

apart : ◌≡◌ {A = ℕ} 0 1 → ⊥
apart e = omega arith

xs_ys : Reordered (kind two) xs ys
xs_ys =
    swaps_reordered (kind two)
    (front (elapse 1)
    (next
    (front (dispatch 0) (swap (release 0) (dispatch 1) apart))
    (next
    (swap (dispatch 0) (dispatch 1) apart)
    (next
    (front (dispatch 1) (front (dispatch 0) (swap (release 0) (release 1) apart)))
    (front (dispatch 1) (swap (dispatch 0) (release 1) apart))))))

pub same_end : after (step two) (fresh two) xs ≡ after (step two) (fresh two) ys
same_end = (toy_reorder two xs ys xs_ys xs_fine ys_fine).1

-- whichever neighbours of xs change places, the dispatch of 1 is refused 8
pub no_way
    : (before later : List Event) (a b : Event)
    → xs ≡ before ++ (a ∷ b ∷ later)
    → Apart (kind two a) (kind two b)
    → at (logged (before ++ (b ∷ a ∷ later))) 2 ≡ some (dispatch 1, refusal 8)
unfolding log fresh verdict tests first_of in_use busy within count_to all_to set_to
no_way [] later a b e x = let p : a ≡ elapse 1 = cc in absurd (rw p at x)
no_way (p ∷ []) later a b e x =
    let i : a ≡ dispatch 0 = cc in
    let j : b ≡ release 0 = cc in
    absurd ((rw (i, j) at x) refl)
no_way (p ∷ q ∷ []) later a b e x =
    let l : p ∷ q ∷ b ∷ a ∷ later ≡ elapse 1 ∷ dispatch 0 ∷ dispatch 1 ∷ release 0 ∷ release 1 ∷ [] = cc in
    ap (λ (k : List Event). at (logged k) 2) l
no_way (p ∷ q ∷ r ∷ []) later a b e x =
    let i : a ≡ dispatch 1 = cc in
    let j : b ≡ release 1 = cc in
    absurd ((rw (i, j) at x) refl)
no_way (p ∷ q ∷ r ∷ t ∷ before) later a b e x = absurd (omega (arith, ap length e, length-append before (a ∷ b ∷ later)))

-- nothing moves across time
pub across : Reordered (kind two) (elapse 1 ∷ dispatch 0 ∷ []) (dispatch 0 ∷ elapse 1 ∷ []) → ⊥
unfolding Reordered view
across r =
    let q : ◌≡◌ {A = List Event} (elapse 1 ∷ dispatch 0 ∷ []) (dispatch 0 ∷ elapse 1 ∷ []) = r 0 in
    let z : ◌≡◌ {A = ℕ} 0 1 = cc in omega arith

-- nor does a group's order change
pub inside : Reordered (kind two) (release 0 ∷ dispatch 0 ∷ []) (dispatch 0 ∷ release 0 ∷ []) → ⊥
unfolding Reordered view
inside r =
    let q : ◌≡◌ {A = List Event} (release 0 ∷ dispatch 0 ∷ []) (dispatch 0 ∷ release 0 ∷ []) = r 0 in
    let z : ◌≡◌ {A = ℕ} 0 1 = cc in omega arith

-- two processors, and both tasks run: the group 0 hears that time passed, not how many ran
abbrev pair : Config
pair = record { n = 2; processors = 2; limit = 9; group_of = λ t. t }

abbrev zs : List Event
zs = dispatch 0 ∷ dispatch 1 ∷ elapse 1 ∷ []

zs_fine : Each Fine (view (entry (kind pair)) 0 (log (step pair) (fresh pair) zs))
unfolding Each view log fresh verdict tests first_of in_use busy within count_to all_to set_to
zs_fine = (done_refusal, (λ r. ran_refusal, tt))

pub same_told
    : told_log told (view (entry (kind pair)) 0 (log (step pair) (fresh pair) zs))
    ≡ told_log told (log (step pair) (fresh pair) (view (kind pair) 0 zs))
same_told = (toy_delete pair 0 zs zs_fine).0

ran_inj : {i j : ℕ} → ran i ≡ ran j → i ≡ j
ran_inj p = cc

-- whole answers would differ: the time answered `ran 2`, and without the other group `ran 1`
pub not_whole : view (entry (kind pair)) 0 (log (step pair) (fresh pair) zs) ≡ log (step pair) (fresh pair) (view (kind pair) 0 zs) → ⊥
unfolding view log fresh verdict tests first_of in_use busy within count_to all_to set_to
not_whole e =
    let q : ◌≡◌ {A = ℕ} 2 1 = ran_inj (ap (λ (l : List (Event × Answer)). (get_or l 1 (elapse 0, done)).1) e) in
    omega arith
