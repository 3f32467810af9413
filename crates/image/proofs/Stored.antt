-- What a part that is stored from an offset on leaves: the part stands there, what stands before it still stands, a byte outside stays, and where the part
-- stood already nothing changes. Assumes nothing.
use mathlib.Core.Path.{◌≡◌, refl, sym, ap, ◌∙◌}
use mathlib.Core.List.{List, [], ◌∷◌}
use mathlib.Core.Logic.{◌⊎◌, inl, inr, ⊎_elim}
use Prim.Native.Nat.{ℕ, suc, ◌+◌, ◌<◌, ◌≤◌}
use native.Mathlib.Nat.{eq-or-lt_of_le}
use native.Mathlib.Omega.{arith}
use lib.ListN.{length, set, length-set}
use lib.Seq.{get_or-set_same, get_or-set_other, set-get_or}
use Rattle.laws.proofs.Lists.{set_both}
use Rattle.lent_bytes.specs.Numbers.{byte_at}
use Rattle.lent_bytes.specs.Writing.{stored}
use Rattle.lent_bytes.proofs.Stands.{Stands, moved}

-- a byte before or after the part
pub stored_outside : (vs l : List ℕ) (at i : ℕ) → (i < at) ⊎ (at + length vs ≤ i) → byte_at (stored l at vs) i ≡ byte_at l i
unfolding stored
stored_outside [] l at i o = refl
stored_outside (v ∷ vs) l at i o =
    stored_outside vs (set l at v) (suc at) i (⊎_elim (λ (b : i < at). inl (omega arith)) (λ (b : at + suc (length vs) ≤ i). inr (omega arith)) o)
    ∙ get_or-set_other l at i v 0 (⊎_elim (λ (b : i < at). λ e. omega arith) (λ (b : at + suc (length vs) ≤ i). λ e. omega arith) o)

-- what stands before the part
pub stands_before : (us vs l : List ℕ) (at to : ℕ) → at + length us ≤ to → Stands us l at → Stands us (stored l to vs) at
stands_before [] vs l at to b h = tt
stands_before (u ∷ us) vs l at to b h =
    (stored_outside vs l to at (inl (omega arith)) ∙ h.0, stands_before us vs l (at + 1) to (omega arith) h.1)

-- the part itself
pub stored_stands : (vs l : List ℕ) (at : ℕ) → at + length vs ≤ length l → Stands vs (stored l at vs) at
unfolding stored
stored_stands [] l at b = tt
stored_stands (v ∷ vs) l at b = (
  stored_outside vs (set l at v) (suc at) at (inl (omega arith)) ∙ get_or-set_same l at v 0 (omega arith),
  moved vs _ (suc at) (at + 1) (omega arith) (stored_stands vs (set l at v) (suc at) (rw length-set (omega arith))),
)

-- stored where it stands
pub stored_same : (vs l : List ℕ) (at : ℕ) → Stands vs l at → stored l at vs ≡ l
unfolding stored
stored_same [] l at h = refl
stored_same (v ∷ vs) l at h =
    let e : set l at v ≡ l = ap (set l at) (sym h.0) ∙ set-get_or l at 0 in
    rw e (stored_same vs l (suc at) (moved vs l (at + 1) (suc at) (omega arith) h.1))

-- in two lists of one length that agree at a byte
pub stored_both
    : (vs l m : List ℕ) (at i : ℕ) → length l ≡ length m → byte_at l i ≡ byte_at m i → byte_at (stored l at vs) i ≡ byte_at (stored m at vs) i
unfolding stored
stored_both [] l m at i e h = h
stored_both (v ∷ vs) l m at i e h =
    stored_both vs (set l at v) (set m at v) (suc at) i (simp length-set e) (set_both l m at i v 0 e h)

-- what stands in two lists is the same in both
pub stands_agree : (vs l m : List ℕ) (at i : ℕ) → Stands vs l at → Stands vs m at → at ≤ i → i < at + length vs → byte_at l i ≡ byte_at m i
stands_agree [] l m at i g h b c = absurd (omega arith)
stands_agree (v ∷ vs) l m at i g h b c =
    ⊎_elim
    (λ (e : at ≡ i). rw (← e) (g.0 ∙ sym h.0))
    (λ (e : at < i). stands_agree vs l m (at + 1) i g.1 h.1 (omega arith) (omega arith))
    (eq-or-lt_of_le b)
