-- A refusal against a number, and a turn of the search for its line. Assumes nothing.
use Rattle.std.specs.Prelude.{if◌then◌else◌}
use mathlib.Core.Path.{◌≡◌, sym, ap, ◌∙◌}
use mathlib.Core.Bool.{Bool, true, false}
use mathlib.Core.Option.{none, some}
use Prim.Native.Nat.{ℕ, suc, ◌+◌, ◌-◌, ◌<◌, ◌≤◌}
use native.Mathlib.Numerals.{add-one}
use native.Mathlib.Omega.{arith}
use lib.Dec.{eqb}
use lib.ListN.{get_or}
use Rattle.bound.specs.Table.{table_refusal}
use Rattle.bound_text.specs.declared.Reading.{Reading}
use Rattle.bound_text.specs.Faults.{table_to, is_refused, line_read, line_from, faulty_line}

module _ (r : Reading) (number count : ℕ) where
  pub passes : table_refusal (table_to r count) ≡ none → false ≡ is_refused r number count
  unfolding is_refused
  passes e = rw e

  pub told : (n : ℕ) → table_refusal (table_to r count) ≡ some n → eqb n number ≡ is_refused r number count
  unfolding is_refused
  told n e = rw e

module _ (r : Reading) (number : ℕ) where
  pub first_told : (b : Bool) → b ≡ is_refused r number 0 → b ≡ true → r.first ≡ faulty_line r number
  unfolding faulty_line
  first_told b e y = rw (← e, y)

  pub search_begins : (b : Bool) → b ≡ is_refused r number 0 → b ≡ false → line_from r number (12 - 0) 0 ≡ faulty_line r number
  unfolding faulty_line
  search_begins b e y = rw (← e, y)

  module _ (i : ℕ) (b : Bool) (e : b ≡ is_refused r number (i + 1)) where
    opened : i < 12 → line_from r number (12 - i) i ≡ (if b then line_read (get_or r.lines i 0) else line_from r number (12 - (i + 1)) (i + 1))
    unfolding line_from
    opened l = ap (λ k. line_from r number k i) (let d : 12 - i ≡ suc (12 - (i + 1)) = omega arith in d) ∙ rw (e, add-one)

    pub line_told : i < 12 → b ≡ true → line_read (get_or r.lines i 0) ≡ line_from r number (12 - i) i
    line_told l y = sym (opened l ∙ rw y)

    pub search_goes : i < 12 → b ≡ false → line_from r number (12 - (i + 1)) (i + 1) ≡ line_from r number (12 - i) i
    search_goes l n = sym (opened l ∙ rw n)

  pub search_ends : (i : ℕ) → i ≤ 12 → 12 ≤ i → r.surplus ≡ line_from r number (12 - i) i
  unfolding line_from
  search_ends i l m = sym (ap (λ k. line_from r number k i) (let d : 12 - i ≡ 0 = omega arith in d))
