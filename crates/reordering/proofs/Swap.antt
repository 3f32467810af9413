-- A reordering is made of swaps of neighbours, and a list of swaps is a reordering. Assumes nothing.
use Rattle.std.specs.Prelude.{if◌then◌else◌}
use mathlib.Core.Path.{◌≡◌, refl, sym, ◌∙◌, ap}
use mathlib.Core.Bool.{Bool, true, false, true≢false}
use mathlib.Core.List.{List, [], ◌∷◌}
use Prim.Native.Nat.{ℕ}
use native.Mathlib.Omega.{arith}
use borrow.Author.Tests.{eqb-true, eqb-false, eq-eqb}
use Rattle.laws.proofs.Cases.{split}
use Rattle.reordering.specs.Order.{Kind, time, group, sees, Apart, view, Reordered}

-- case on a kind, keeping its equation
split_kind : {C : Type 0} (k : Kind) → (k ≡ time → C) → ((g : ℕ) → k ≡ group g → C) → C
split_kind time f h = f refl
split_kind (group g) f h = h g refl

-- a group that sees an event of the kind
own : Kind → ℕ
own time = 0
own (group g) = g

sees_own : (k : Kind) → sees (own k) k ≡ true
unfolding own
sees_own time = refl
sees_own (group g) = eq-eqb g g refl

-- no group sees two events that are apart
not_both : (g : ℕ) (j k : Kind) → Apart j k → sees g j ≡ true → sees g k ≡ true → ⊥
not_both g time k a p q = a
not_both g (group i) time a p q = a
not_both g (group i) (group j) a p q = a (eqb-true i g p ∙ sym (eqb-true j g q))

-- what the group h does not see is apart from what it does
unseen_apart : (h : ℕ) (k : Kind) → sees h k ≡ false → Apart (group h) k
unseen_apart h time p = true≢false p
unseen_apart h (group g) p = λ e. eqb-false g h p (sym e)

if_swap : {E : Type 0} (p q : Bool) (a b : E) (l : List E) → (p ≡ true → q ≡ true → ⊥)
    → (if p then a ∷ (if q then b ∷ l else l) else (if q then b ∷ l else l)) ≡ (if q then b ∷ (if p then a ∷ l else l) else (if p then a ∷ l else l))
if_swap true true a b l h = absurd (h refl refl)
if_swap true false a b l h = refl
if_swap false true a b l h = refl
if_swap false false a b l h = refl

cons_head : {E : Type 0} {a b : E} {l m : List E} → a ∷ l ≡ b ∷ m → a ≡ b
cons_head p = cc

cons_tail : {E : Type 0} {a b : E} {l m : List E} → a ∷ l ≡ b ∷ m → l ≡ m
cons_tail p = cc

never : {E : Type 0} {a : E} {l : List E} → a ∷ l ≡ [] → ⊥
never p = let z : ◌≡◌ {A = ℕ} 0 1 = cc in omega arith

module _ {E : Type 0} (kind : E → Kind) where
  -- ys comes from xs by swaps of neighbours that are apart
  pub data Swaps : List E → List E → Type 0 where
    same : {xs : List E} → Swaps xs xs
    front : (e : E) {xs ys : List E} → Swaps xs ys → Swaps (e ∷ xs) (e ∷ ys)
    swap : (a b : E) {xs : List E} → Apart (kind a) (kind b) → Swaps (a ∷ b ∷ xs) (b ∷ a ∷ xs)
    next : {xs ys zs : List E} → Swaps xs ys → Swaps ys zs → Swaps xs zs

  pub view_seen : (g : ℕ) (e : E) (es : List E) → sees g (kind e) ≡ true → view kind g (e ∷ es) ≡ e ∷ view kind g es
  unfolding view
  view_seen g e es h = rw h

  pub view_unseen : (g : ℕ) (e : E) (es : List E) → sees g (kind e) ≡ false → view kind g (e ∷ es) ≡ view kind g es
  unfolding view
  view_unseen g e es h = rw h

  -- swaps make a reordering
  swaps_view : (g : ℕ) {xs ys : List E} → Swaps xs ys → view kind g xs ≡ view kind g ys
  unfolding view
  swaps_view g same = refl
  swaps_view g (front e s) = ap (λ (l : List E). if sees g (kind e) then e ∷ l else l) (swaps_view g s)
  swaps_view g (swap a b {xs = xs} h) = if_swap (sees g (kind a)) (sees g (kind b)) a b (view kind g xs) (not_both g (kind a) (kind b) h)
  swaps_view g (next s t) = swaps_view g s ∙ swaps_view g t

  pub swaps_reordered : {xs ys : List E} → Swaps xs ys → Reordered kind xs ys
  unfolding Reordered
  swaps_reordered s g = swaps_view g s

  -- the first event of the group h that ys has, e, comes to the front by swaps
  bring : (e : E) (h : ℕ) → kind e ≡ group h → (ys rest : List E) → view kind h ys ≡ e ∷ rest → (zs : List E) × Swaps (e ∷ zs) ys
  unfolding view
  bring e h k [] rest p = absurd (never (sym p))
  bring e h k (y ∷ ys) rest p =
      split
      (sees h (kind y))
      (λ t. let q : e ≡ y = sym (cons_head (sym (view_seen h y ys t) ∙ p)) in (ys, rw q same))
      (λ f.
      let r : (zs : List E) × Swaps (e ∷ zs) ys = bring e h k ys rest (sym (view_unseen h y ys f) ∙ p) in
      (y ∷ r.0, next (swap e y (rw k (unseen_apart h (kind y) f))) (front y r.1)))

  -- no list with an event is a reordering of the empty one
  empty : (y : E) (ys : List E) → Reordered kind [] (y ∷ ys) → ⊥
  unfolding Reordered view
  empty y ys r = never (sym (view_seen (own (kind y)) y ys (sees_own (kind y))) ∙ sym (r (own (kind y))))

  -- a passage of time that stands first stands first in the reordering: every group sees it
  first_time : (e : E) (es ys : List E) → kind e ≡ time → Reordered kind (e ∷ es) ys → (zs : List E) × Swaps (e ∷ zs) ys
  unfolding Reordered view
  first_time e es [] k r = absurd (never (sym (view_seen 0 e es (rw k)) ∙ r 0))
  first_time e es (y ∷ ys) k r =
      let g : ℕ = own (kind y) in
      let q : e ≡ y = cons_head (sym (view_seen g e es (rw k)) ∙ r g ∙ view_seen g y ys (sees_own (kind y))) in
      (ys, rw q same)

  -- what stands first in xs comes to the front of a reordering by swaps
  first : (e : E) (es ys : List E) → Reordered kind (e ∷ es) ys → (zs : List E) × Swaps (e ∷ zs) ys
  unfolding Reordered
  first e es ys r =
      split_kind
      (kind e)
      (λ k. first_time e es ys k r)
      (λ h k. bring e h k ys (view kind h es) (sym (r h) ∙ view_seen h e es (rw k (eq-eqb h h refl))))

  -- a common first event drops from both
  tails : (e : E) (es zs : List E) → Reordered kind (e ∷ es) (e ∷ zs) → Reordered kind es zs
  unfolding Reordered
  tails e es zs r g =
      split
      (sees g (kind e))
      (λ t. cons_tail (sym (view_seen g e es t) ∙ r g ∙ view_seen g e zs t))
      (λ f. sym (view_unseen g e es f) ∙ r g ∙ view_unseen g e zs f)

  pub reordered_sym : (xs ys : List E) → Reordered kind xs ys → Reordered kind ys xs
  unfolding Reordered
  reordered_sym xs ys r g = sym (r g)

  pub reordered_trans : (xs ys zs : List E) → Reordered kind xs ys → Reordered kind ys zs → Reordered kind xs zs
  unfolding Reordered
  reordered_trans xs ys zs r s g = r g ∙ s g

  -- a reordering is made of swaps
  pub reordered_swaps : (xs ys : List E) → Reordered kind xs ys → Swaps xs ys
  reordered_swaps [] [] r = same
  reordered_swaps [] (y ∷ ys) r = absurd (empty y ys r)
  reordered_swaps (e ∷ es) ys r =
      let f : (zs : List E) × Swaps (e ∷ zs) ys = first e es ys r in
      let back : Reordered kind ys (e ∷ f.0) = reordered_sym (e ∷ f.0) ys (swaps_reordered f.1) in
      let rest : Reordered kind es f.0 = tails e es f.0 (reordered_trans (e ∷ es) ys (e ∷ f.0) r back) in
      next (front e (reordered_swaps es f.0 rest)) f.1
