-- Parts of fixed lengths, written one after another by the code, also by a loop. Assumes nothing.
use mathlib.Core.Path.{◌≡◌, refl, sym, ap, ap₂, ◌∙◌}
use mathlib.Core.List.{List, ◌++◌}
use Prim.Native.Nat.{ℕ, ◌+◌, ◌*◌, ◌<◌, ◌≤◌}
use native.Mathlib.Omega.{arith}
use lib.ListN.{length, length-append}
use Rattle.laws.specs.Loops.{join_to}
use Rattle.laws.proofs.Fold.{turns_done}
use Rattle.laws.proofs.Join.{join_more, join_long}
use Rattle.lent_bytes.specs.Writing.{stored}
use Rattle.lent_bytes.proofs.Writing.{stored_append, stored_length}

-- what the code has written: m is l with xs, n bytes, from an offset on
pub record Written (l : List ℕ) (at : ℕ) (xs m : List ℕ) (n : ℕ) : Type 0 where
  pub done : m ≡ stored l at xs
  pub long : length xs ≡ n

pub first : {l m xs : List ℕ} {at n : ℕ} → m ≡ stored l at xs → length xs ≡ n → Written l at xs m n
first e long = record { done = e; long = long }

-- and then ys right after it
pub next
    : {l xs m k : List ℕ} {at n j : ℕ} → Written l at xs m n → (ys : List ℕ) (to : ℕ) → k ≡ stored m to ys → length ys ≡ j → to ≡ at + n → Written l at (xs ++ ys) k (n + j)
next {l} {xs} {m} {k} {at} {n} {j} w ys to e long after = record {
  done = e ∙ ap₂ (λ b i. stored b i ys) w.done (after ∙ ap (λ i. at + i) (sym w.long)) ∙ sym (stored_append xs ys l at);
  long = length-append xs ys ∙ ap₂ ◌+◌ w.long long;
}

-- what a loop has written after i of n turns, each of which writes its part after the others
pub record Filled (n : ℕ) (f : ℕ → List ℕ) (l : List ℕ) (at : ℕ) (m : List ℕ) (i : ℕ) : Type 0 where
  pub turns : i ≤ n
  pub same : length m ≡ length l
  pub done : m ≡ stored l at (join_to i f)

pub filled_none : (n : ℕ) (f : ℕ → List ℕ) (l : List ℕ) (at : ℕ) → Filled n f l at l 0
unfolding stored join_to
filled_none n f l at = record { turns = omega arith; same = refl; done = refl }

pub filled_more
    : {n : ℕ} {f : ℕ → List ℕ} {l m : List ℕ} {at i : ℕ} (size : ℕ) → ((j : ℕ) → length (f j) ≡ size)
    → Filled n f l at m i → i < n → (k : List ℕ) → k ≡ stored m (at + size * i) (f i) → Filled n f l at k (i + 1)
filled_more {n} {f} {l} {m} {at} {i} size long w lt k e = record {
  turns = omega arith;
  same = ap length e ∙ stored_length m (at + size * i) (f i) ∙ w.same;
  done =
      (next (first w.done (join_long f size long i)) (f i) (at + size * i) e (long i) refl).done
      ∙ ap (stored l at) (join_more f i (join_to i f) (f i) refl refl);
}

pub filled_done : {n : ℕ} {f : ℕ → List ℕ} {l m : List ℕ} {at i : ℕ} → Filled n f l at m i → n ≤ i → m ≡ stored l at (join_to n f)
filled_done {n} {f} {l} {m} {at} {i} w g = turns_done (λ j. stored l at (join_to j f)) i n m w.turns g w.done
