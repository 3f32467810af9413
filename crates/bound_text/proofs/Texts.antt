-- The text as the loops leave it. Assumes nothing.
use Rattle.std.specs.Prelude.{if◌then◌else◌, Some, None}
use mathlib.Core.Path.{◌≡◌, ◌∙◌}
use mathlib.Core.Bool.{not}
use mathlib.Core.List.{List}
use Prim.Native.Nat.{ℕ, ◌≤◌}
use lib.Dec.{eqb}
use lib.ListN.{length, get_or}
use Rattle.laws.specs.Loops.{fold_to}
use Rattle.laws.proofs.Fold.{fold_none, fold_done}
use Rattle.bound_text.specs.declared.Line.{Line}
use Rattle.bound_text.specs.declared.Reading.{Reading}
use Rattle.bound_text.specs.declared.State.{State}
use Rattle.bound_text.specs.Lines.{no_line}
use Rattle.bound_text.specs.Readings.{no_reading, ended, taken_at, read_from, byte_at, number_from}

abbrev start : State
start = record { reading = no_reading; line = no_line }

pub begun_is : (text : List ℕ) (r : Reading) (l : Line) → r ≡ no_reading → l ≡ no_line → ◌≡◌ {A = State} (record { reading = r; line = l }) (fold_to 0 (taken_at text) start)
begun_is text r l e d = (λ i. record { reading = e i; line = d i }) ∙ fold_none _ _

-- all bytes are taken
pub read_is : (text : List ℕ) (i : ℕ) (st : State) → i ≤ length text → length text ≤ i → st ≡ fold_to i (taken_at text) start → ended st.reading st.line ≡ read_from text
unfolding read_from
read_is text i st l m e = rw (fold_done _ _ _ _ _ l m e)

pub number_is
    : (text : List ℕ) (i : ℕ) (line : Line) → i ≤ length text → length text ≤ i → line ≡ fold_to i (byte_at text) no_line
    → (if not line.clear then None else if not (eqb line.fields 1) then None else Some (get_or line.value 0 0)) ≡ number_from text
unfolding number_from
number_is text i line l m e = rw (fold_done _ _ _ _ _ l m e)
