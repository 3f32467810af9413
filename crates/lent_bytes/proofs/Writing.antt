-- Laws of what is stored from an offset on: nothing, one byte, one part after another, the whole. Assumes nothing.
use mathlib.Core.Path.{◌≡◌, refl, sym, ap, ◌∙◌}
use mathlib.Core.List.{List, [], ◌∷◌, ◌++◌, append_assoc, append-nil}
use Prim.Native.Nat.{ℕ, suc, ◌+◌, ◌≤◌}
use native.Mathlib.Nat.{zero-add}
use native.Mathlib.Omega.{arith}
use lib.ListN.{length, drop, set, length-append, length-set, drop_of_length-le}
use lib.Seq.{sets, length-sets, sets-eq, drop-drop}
use borrow.Rule.Slice.PartMut.{put_mid}
use Rattle.lent_bytes.specs.Writing.{stored, Wrote}

pub stored_append : (xs ys l : List ℕ) (at : ℕ) → stored l at (xs ++ ys) ≡ stored (stored l at xs) (at + length xs) ys
unfolding stored
stored_append [] ys l at = ap (λ k. sets l k ys) (omega arith)
stored_append (x ∷ xs) ys l at = stored_append xs ys (set l at x) (suc at) ∙ ap (λ k. sets (sets (set l at x) (suc at) xs) k ys) (omega arith)

pub stored_length : (l : List ℕ) (at : ℕ) (xs : List ℕ) → length (stored l at xs) ≡ length l
unfolding stored
stored_length l at xs = length-sets l at xs

-- in plain words: what is stored from the first byte on, then what stood after it
pub stored_first : (l xs : List ℕ) → length xs ≤ length l → stored l 0 xs ≡ xs ++ drop (length xs) l
unfolding stored
stored_first l xs h = sets-eq xs l 0 (omega arith) ∙ ap (λ k. xs ++ drop k l) (zero-add (length xs))

-- as many bytes as there are, from the first on, are all of them
pub stored_whole : (l xs : List ℕ) → length xs ≡ length l → stored l 0 xs ≡ xs
stored_whole l xs e = stored_first l xs (omega arith) ∙ ap (λ rest. xs ++ rest) (drop_of_length-le l {i = length xs} (omega arith)) ∙ append-nil xs

-- what the code leaves when it copies a part over as many bytes from an offset on
pub stored_copied : (l xs ys : List ℕ) (at n : ℕ) → at + length xs ≤ length l → n ≡ length xs → ys ≡ xs → put_mid at n l ys ≡ stored l at xs
unfolding stored
stored_copied l xs ys at n h e f =
    rw (f, e, drop-drop (length xs) at l, ← append_assoc) (sym (sets-eq xs l at h))

pub wrote_none : (l : List ℕ) (at : ℕ) → Wrote 0 l at [] l at
unfolding stored
wrote_none l at = record { ends = omega arith; within = omega arith; holds = refl; kept = refl }

pub wrote_byte : (l : List ℕ) (at b : ℕ) → Wrote 1 l at (b ∷ []) (set l at b) (at + 1)
unfolding stored
wrote_byte l at b = record { ends = refl; within = omega arith; holds = refl; kept = length-set l at b }

module _ {m n : ℕ} {l k o : List ℕ} {at e f : ℕ} {xs ys : List ℕ} (first : Wrote m l at xs k e) (then : Wrote n k e ys o f) where
  -- one text, then another after it
  pub wrote_then : Wrote (m + n) l at (xs ++ ys) o f
  wrote_then =
      record {
        ends = omega (arith, first.ends, then.ends, length-append xs ys);
        within = omega (arith, first.within, then.within);
        holds = then.holds ∙ ap (λ b. stored b e ys) first.holds ∙ ap (λ p. stored (stored l at xs) p ys) first.ends ∙ sym (stored_append xs ys l at);
        kept = then.kept ∙ first.kept;
      }

-- a bound may be larger
pub wrote_most : {m n : ℕ} {l k : List ℕ} {at e : ℕ} {xs : List ℕ} → m ≤ n → Wrote m l at xs k e → Wrote n l at xs k e
wrote_most h w = record { ends = w.ends; within = omega (arith, w.within); holds = w.holds; kept = w.kept }
