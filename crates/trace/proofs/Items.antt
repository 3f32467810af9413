-- Laws of reading: a record that is read lies within the file and moves the place on by six bytes or more, so the fuel of `items` never cuts a file
-- short (`items_is`). Assumes nothing.
use mathlib.Core.Path.{◌≡◌, refl, ap}
use mathlib.Core.List.{List, ◌∷◌}
use Prim.Native.Nat.{ℕ, zero, suc, ◌+◌, ◌-◌, ◌<◌, ◌≤◌}
use native.Mathlib.Omega.{arith}
use lib.ListN.{length}
use Rattle.std.specs.Prelude.{Ok, Err, Some, None}
use Rattle.std.proofs.lemmas.Grind.{common_steps}
use Rattle.laws.specs.Tests.{first_of}
use Rattle.trace.specs.declared.Place.{Place}
use Rattle.trace.specs.declared.Record.{Record}
use Rattle.lent_bytes.specs.Numbers.{two_bytes}
use Rattle.trace.specs.Reading.{body_length, Read, got, read_fault, read_at, items_after, items_from, items_at}

-- a known kind's body has two bytes or more
pub body_least : (k : ℕ) → (body_length k ≡ 0 → ⊥) → 2 ≤ body_length k
unfolding body_length
body_least k known = grind (arith, common_steps)

pub read_moves : (file : List ℕ) (at : ℕ) (r : Record) (p : Place) → read_at file at ≡ got r p → (at + 6 ≤ p.at) × (p.at ≤ length file)
unfolding read_at read_fault first_of
read_moves file at r p g = grind (arith, common_steps, body_least (two_bytes file (at + 2)))

-- fuel that is more than what is left of the file gives the same items, however much it is
rest_more
    : (k m : ℕ) (file : List ℕ) (at : ℕ) (r : Read) → read_at file at ≡ r
    → ((p : ℕ) → length file - p < k → length file - p < m → items_from k file p ≡ items_from m file p)
    → length file - at < suc k → length file - at < suc m → items_after (items_from k file) r ≡ items_after (items_from m file) r
rest_more k m file at (Ok (Some found)) e same a b = let w = read_moves file at found.0 found.1 e in same found.1.at (omega arith) (omega arith)
rest_more k m file at (Ok None) e same a b = refl
rest_more k m file at (Err n) e same a b = refl

pub items_more : (k m : ℕ) (file : List ℕ) (at : ℕ) → length file - at < k → length file - at < m → items_from k file at ≡ items_from m file at
unfolding items_from
items_more zero m file at a b = absurd (omega arith)
items_more (suc k) zero file at a b = absurd (omega arith)
items_more (suc k) (suc m) file at a b =
    ap (λ l. (at, read_at file at) ∷ l) (rest_more k m file at (read_at file at) refl (items_more k m file) a b)

-- what stands at a place, then what stands at the moved place
pub items_is : (file : List ℕ) (at : ℕ) → items_at file at ≡ (at, read_at file at) ∷ items_after (items_at file) (read_at file at)
unfolding items_at items_from
items_is file at =
    ap (λ l. (at, read_at file at) ∷ l)
    (rest_more (length file) (suc (length file)) file at (read_at file at) refl (λ p a b. items_more (length file) (suc (length file)) file p a b) (omega arith) (omega arith))
