-- The pigeonhole law in both forms: distinct numbers below n are at most n, and links among the numbers below n that end at all end within n.
-- Assumes nothing.
use Rattle.std.specs.Prelude.{if◌then◌else◌}
use mathlib.Core.Path.{◌≡◌, refl, sym, ap, ◌∙◌}
use mathlib.Core.Logic.{◌⊎◌, inl, inr, ⊎_elim}
use Prim.Native.Nat.{ℕ, zero, suc, ◌+◌, ◌-◌, ◌<◌, ◌≤◌}
use native.Mathlib.Nat.{add-sub_of_le, zero-add, suc-add}
use native.Mathlib.Omega.{arith}
use lib.Dec.{eqb, ltb}
use borrow.Author.Tests.{eqb-true, eqb-false, lt-ltb, le-ltb, ltb-true, ltb-false}
use Rattle.laws.specs.Links.{hop, walk, Ended, Leads}
use Rattle.laws.proofs.Cases.{split}
use Rattle.laws.proofs.Fold.{last_or_below}

-- f with w wherever it was n
abbrev moved : ℕ → ℕ → (ℕ → ℕ) → ℕ → ℕ
moved n w f i = if eqb (f i) n then w else f i

-- distinct numbers below n are at most n
pub distinct_most : (m n : ℕ) (f : ℕ → ℕ) → ((i : ℕ) → i < m → f i < n) → ((i j : ℕ) → i < j → j < m → f i ≡ f j → ⊥) → m ≤ n
distinct_most zero n f inside apart = omega arith
distinct_most (suc m) zero f inside apart = absurd (omega (arith, inside 0 (omega arith)))
distinct_most (suc m) (suc n) f inside apart = omega (arith, distinct_most m n (moved n (f m) f) below distinct)
  where
    below : (i : ℕ) → i < m → moved n (f m) f i < n
    below i l =
        split
        (eqb (f i) n)
        (λ e. rw e (omega (arith, inside m (omega arith), apart i m l (omega arith), eqb-true (f i) n e)))
        (λ e. rw e (omega (arith, inside i (omega arith), eqb-false (f i) n e)))

    distinct : (i j : ℕ) → i < j → j < m → moved n (f m) f i ≡ moved n (f m) f j → ⊥
    distinct i j l k q =
        split
        (eqb (f i) n)
        (λ e.
        split
        (eqb (f j) n)
        (λ g. apart i j l (omega arith) (eqb-true (f i) n e ∙ sym (eqb-true (f j) n g)))
        (λ g. apart j m k (omega arith) (sym (rw (e, g) at q))))
        (λ e.
        split
        (eqb (f j) n)
        (λ g. apart i m (omega arith) (omega arith) (rw (e, g) at q))
        (λ g. apart i j l (omega arith) (rw (e, g) at q)))

-- f with v after its first m numbers
abbrev joined : ℕ → ℕ → (ℕ → ℕ) → ℕ → ℕ
joined m v f i = if ltb i m then f i else v

-- and fewer where one is missing
pub distinct_fewer
    : (m n v : ℕ) (f : ℕ → ℕ)
    → ((i : ℕ) → i < m → f i < n)
    → ((i j : ℕ) → i < j → j < m → f i ≡ f j → ⊥)
    → v < n
    → ((i : ℕ) → i < m → f i ≡ v → ⊥)
    → m < n
distinct_fewer m n v f inside apart l missing = distinct_most (suc m) n (joined m v f) below distinct
  where
    below : (i : ℕ) → i < suc m → joined m v f i < n
    below i k = split (ltb i m) (λ e. rw e (inside i (ltb-true i m e))) (λ e. rw e l)

    distinct : (i j : ℕ) → i < j → j < suc m → joined m v f i ≡ joined m v f j → ⊥
    distinct i j h k q =
        let y = lt-ltb i m (omega arith) in
        ⊎_elim
        (λ (e : j ≡ m). missing i (omega arith) (rw (y, le-ltb j m (omega arith)) at q))
        (λ (e : j < m). apart i j h e (rw (y, lt-ltb j m e) at q))
        (last_or_below j m k)

module _ (n : ℕ) (next : ℕ → ℕ) where
  ended_or_linked : (x : ℕ) → Ended n next x ⊎ (next x < n)
  ended_or_linked x = split (ltb (next x) n) (λ e. inr (ltb-true _ _ e)) (λ e. inl (ltb-false _ _ e))

  -- where it ends, a hop stays, and where it is linked, a hop follows the link
  pub hop_ended : (x : ℕ) → Ended n next x → hop n next x ≡ x
  unfolding hop
  hop_ended x e = rw (le-ltb (next x) n e)

  pub hop_linked : (x : ℕ) → next x < n → hop n next x ≡ next x
  unfolding hop
  hop_linked x l = rw (lt-ltb (next x) n l)

  pub walk_ended : (k x : ℕ) → Ended n next x → walk n next k x ≡ x
  unfolding walk
  walk_ended zero x e = refl
  walk_ended (suc k) x e = rw (hop_ended x e) (walk_ended k x e)

  pub walk_linked : (k x : ℕ) → next x < n → walk n next (suc k) x ≡ walk n next k (next x)
  unfolding walk
  walk_linked k x l = rw (hop_linked x l)

  -- j hops, then k
  pub walk_add : (j k x : ℕ) → walk n next (j + k) x ≡ walk n next k (walk n next j x)
  unfolding walk
  walk_add zero k x = rw zero-add
  walk_add (suc j) k x = rw suc-add (walk_add j k (hop n next x))

  -- once it has ended, more hops change nothing
  pub walk_more : (k m x : ℕ) → Ended n next (walk n next k x) → k ≤ m → walk n next m x ≡ walk n next k x
  walk_more k m x e l = rw (← (add-sub_of_le l)) (walk_add k (m - k) x ∙ walk_ended (m - k) _ e)

  hop_below : (x : ℕ) → x < n → hop n next x < n
  hop_below x l = ⊎_elim (λ e. rw (hop_ended x e) l) (λ m. rw (hop_linked x m) m) (ended_or_linked x)

  -- a walk from below n stays below n
  pub walk_below : (k x : ℕ) → x < n → walk n next k x < n
  unfolding walk
  walk_below zero x l = l
  walk_below (suc k) x l = walk_below k (hop n next x) (hop_below x l)

  -- a walk that has not ended followed a link at each hop, and where links lead a walk goes
  pub walk_leads : (k x : ℕ) → next (walk n next k x) < n → Leads n next k x (walk n next k x)
  unfolding Leads walk
  walk_leads zero x l = refl
  walk_leads (suc k) x l =
      ⊎_elim
      (λ e. absurd (omega (arith, ap next (walk_ended (suc k) x e))))
      (λ m. (m, rw (hop_linked x m) (walk_leads k (next x) (rw (hop_linked x m) at l))))
      (ended_or_linked x)

  pub leads_walk : (k x y : ℕ) → Leads n next k x y → walk n next k x ≡ y
  unfolding Leads walk
  leads_walk zero x y h = h
  leads_walk (suc k) x y h = rw (hop_linked x h.0) (leads_walk k (next x) y h.1)

  -- one link more at the end
  pub leads_on : (k x y : ℕ) → Leads n next k x y → next y < n → Leads n next (suc k) x (next y)
  unfolding Leads
  leads_on zero x y h l = rw h (l, refl)
  leads_on (suc k) x y h l = (h.0, leads_on k (next x) y h.1 l)

  -- what ends does not lead back to itself
  pub ended_open : (k x : ℕ) → Ended n next (walk n next k x) → (j : ℕ) → Leads n next (suc j) x x → ⊥
  unfolding walk Leads
  ended_open zero x e j h = omega (arith, h.0)
  ended_open (suc k) x e j h = ended_open k (next x) (rw (hop_linked x h.0) at e) j (leads_on j (next x) x h.1 h.0)

  -- nor does anything on its way
  pub ended_open_way
      : (k x : ℕ) → Ended n next (walk n next k x) → (i j : ℕ) → Leads n next (suc j) (walk n next i x) (walk n next i x) → ⊥
  ended_open_way k x e i =
      ended_open k (walk n next i x) (rw (← (walk_add i k x), walk_more k (i + k) x e (omega arith)) e)

  -- where nothing on the way leads back to itself, the walk ends within n hops
  pub open_ends
      : (x : ℕ) → x < n → ((i j : ℕ) → Leads n next (suc j) (walk n next i x) (walk n next i x) → ⊥) → Ended n next (walk n next n x)
  open_ends x l free =
      ⊎_elim
      (λ e. e)
      (λ m. absurd (omega (arith, distinct_most (suc n) n (λ i. walk n next i x) (λ i k. walk_below i x l) (distinct m))))
      (ended_or_linked _)
    where
      going : next (walk n next n x) < n → (k : ℕ) → k ≤ n → next (walk n next k x) < n
      going m k h = ⊎_elim (λ e. absurd (omega (arith, ap next (walk_more k n x e h)))) (λ r. r) (ended_or_linked _)

      distinct : next (walk n next n x) < n → (i j : ℕ) → i < j → j < suc n → walk n next i x ≡ walk n next j x → ⊥
      distinct m i j h k q =
          let d : ℕ = j - suc i in
          let e : walk n next (suc d) (walk n next i x) ≡ walk n next i x =
          sym (walk_add i (suc d) x) ∙ ap (λ h. walk n next h x) (omega arith) ∙ sym q in
          free i d (rw e at (walk_leads (suc d) (walk n next i x) (rw e (going m i (omega arith)))))

  -- what ends at all ends within n hops
  pub ends_in_time : (k x : ℕ) → x < n → Ended n next (walk n next k x) → Ended n next (walk n next n x)
  ends_in_time k x l e = open_ends x l (ended_open_way k x e)

  -- where nothing leads back to itself, everything ends
  pub closed_or_ended : ((y : ℕ) → y < n → (j : ℕ) → Leads n next (suc j) y y → ⊥) → (x : ℕ) → x < n → Ended n next (walk n next n x)
  closed_or_ended free x l = open_ends x l (λ i. free (walk n next i x) (walk_below i x l))
