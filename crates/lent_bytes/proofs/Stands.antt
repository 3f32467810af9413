-- Bytes that stand in others from an offset on. Assumes nothing.
use mathlib.Core.Path.{◌≡◌, refl, sym, subst, ◌∙◌}
use mathlib.Core.List.{List, [], ◌∷◌, ◌++◌}
use mathlib.Core.Logic.{⊎_elim}
use Prim.Native.Nat.{ℕ, zero, suc, ◌+◌, ◌*◌, ◌<◌}
use native.Mathlib.Nat.{add-zero, zero-add}
use native.Mathlib.Omega.{arith}
use lib.ListN.{length, get_or}
use lib.Seq.{ext_get_or}
use Rattle.laws.specs.Loops.{join_to}
use Rattle.laws.proofs.Fold.{last_or_below}
use Rattle.laws.proofs.Join.{join_long}
use Rattle.lent_bytes.specs.Numbers.{byte_at}

-- vs stands in bytes at an offset
abbrev pub Stands : List ℕ → List ℕ → ℕ → Type 0
Stands [] bytes at = Unit {0}
Stands (v ∷ vs) bytes at = (byte_at bytes at ≡ v) × Stands vs bytes (at + 1)

pub moved : (vs bytes : List ℕ) (at to : ℕ) → at ≡ to → Stands vs bytes at → Stands vs bytes to
moved vs bytes at to e h = subst (λ k. Stands vs bytes k) e h

-- two parts stand one after the other, and back
pub stands_first : (xs ys bytes : List ℕ) (at : ℕ) → Stands (xs ++ ys) bytes at → Stands xs bytes at
stands_first [] ys bytes at h = tt
stands_first (x ∷ xs) ys bytes at h = (h.0, stands_first xs ys bytes (at + 1) h.1)

pub stands_rest : (xs ys bytes : List ℕ) (at : ℕ) → Stands (xs ++ ys) bytes at → Stands ys bytes (at + length xs)
stands_rest [] ys bytes at h = moved ys bytes at (at + 0) (omega arith) h
stands_rest (x ∷ xs) ys bytes at h = moved ys bytes (at + 1 + length xs) (at + suc (length xs)) (omega arith) (stands_rest xs ys bytes (at + 1) h.1)

pub stands_both : (xs ys bytes : List ℕ) (at : ℕ) → Stands xs bytes at → Stands ys bytes (at + length xs) → Stands (xs ++ ys) bytes at
stands_both [] ys bytes at g h = moved ys bytes (at + 0) at (omega arith) h
stands_both (x ∷ xs) ys bytes at g h =
    (g.0, stands_both xs ys bytes (at + 1) g.1 (moved ys bytes (at + suc (length xs)) (at + 1 + length xs) (omega arith) h))

-- parts of one size
module _ (f : ℕ → List ℕ) (size : ℕ) (long : (i : ℕ) → length (f i) ≡ size) where
  pub stands_part : (n i : ℕ) (bytes : List ℕ) (at : ℕ) → i < n → Stands (join_to n f) bytes at → Stands (f i) bytes (at + size * i)
  unfolding join_to
  stands_part zero i bytes at l h = absurd (omega arith)
  stands_part (suc n) i bytes at l h =
      ⊎_elim
      (λ (e : i ≡ n).
      rw e (moved (f n) bytes (at + length (join_to n f)) (at + size * n) (omega (arith, join_long f size long n)) (stands_rest (join_to n f) (f n) bytes at h)))
      (λ (e : i < n). stands_part n i bytes at e (stands_first (join_to n f) (f n) bytes at h))
      (last_or_below i n l)

  pub stands_parts
      : (n : ℕ) (bytes : List ℕ) (at : ℕ) → ((i : ℕ) → i < n → Stands (f i) bytes (at + size * i)) → Stands (join_to n f) bytes at
  unfolding join_to
  stands_parts zero bytes at h = tt
  stands_parts (suc n) bytes at h =
      stands_both (join_to n f) (f n) bytes at
      (stands_parts n bytes at (λ i l. h i (omega arith)))
      (moved (f n) bytes (at + size * n) (at + length (join_to n f)) (omega (arith, join_long f size long n)) (h n (omega arith)))

-- bytes stand in themselves
stands_each : (vs bytes : List ℕ) (at : ℕ) → ((i : ℕ) → i < length vs → byte_at bytes (at + i) ≡ get_or vs i 0) → Stands vs bytes at
stands_each [] bytes at h = tt
stands_each (v ∷ vs) bytes at h = (
  rw add-zero at (h 0 (omega arith)),
  stands_each vs bytes (at + 1) (λ i l. subst (λ k. byte_at bytes k ≡ get_or vs i 0) (omega arith) (h (suc i) (omega arith))),
)

pub stands_self : (vs : List ℕ) → Stands vs vs 0
stands_self vs = stands_each vs vs 0 (λ i l. rw zero-add)

-- what stands at the start and is as long is the whole
stands_at : (vs bytes : List ℕ) (at i : ℕ) → i < length vs → Stands vs bytes at → get_or vs i 0 ≡ byte_at bytes (at + i)
stands_at [] bytes at i l h = absurd (omega arith)
stands_at (v ∷ vs) bytes at zero l h = rw add-zero (sym h.0)
stands_at (v ∷ vs) bytes at (suc i) l h =
    stands_at vs bytes (at + 1) i (omega arith) h.1 ∙ subst (λ k. byte_at bytes k ≡ byte_at bytes (at + suc i)) (omega arith) refl

pub stands_whole : (vs bytes : List ℕ) → length vs ≡ length bytes → Stands vs bytes 0 → vs ≡ bytes
stands_whole vs bytes e h =
    ext_get_or 0 vs bytes e (λ i l. stands_at vs bytes 0 i l h ∙ subst (λ k. byte_at bytes k ≡ byte_at bytes i) (omega arith) refl)
