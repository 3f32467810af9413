-- The table that a text was read as, and the line at which it is refused. Assumes nothing.
use Rattle.std.specs.Prelude.{Bool, false, ℕ, zero, suc, eqb, get_or, if◌then◌else◌, Some, None}
use Rattle.std.specs.Prelude as prelude
use Rattle.std.proofs.Math.Option.{Option, none, some}
use Rattle.bound.specs.declared.Sections.{Sections}
use Rattle.bound.specs.Table.{section_numbers, table_refusal}
use Rattle.bound_text.specs.declared.Reading.{Reading}

-- the table of the first sections
abbrev pub table_to : Reading → ℕ → Sections
table_to r count = record { tasks = r.tasks; count = count; section = r.section }

-- it is a refusal, and for the number
abbrev pub refused_for : ℕ → Option ℕ → Bool
refused_for number none = false
refused_for number (some n) = eqb n number

unfoldable pub is_refused : Reading → ℕ → ℕ → Bool
is_refused r number count = refused_for number (table_refusal (table_to r count))

-- the number of a line, if there is one
abbrev pub Line : Type 0
Line = prelude.Option ℕ

-- the line of a section's place: where no section was read it has 0, which is the number of no line
abbrev pub line_read : ℕ → Line
line_read n = if eqb n 0 then None else Some n

-- the line of the first section from i on, of `left`, with which the table is refused for the number; else that of the thirteenth
unfoldable pub line_from : Reading → ℕ → ℕ → ℕ → Line
line_from r number zero i = r.surplus
line_from r number (suc left) i = if is_refused r number (suc i) then line_read (get_or r.lines i 0) else line_from r number left (suc i)

-- if it is refused without sections, the line of the number of tasks
unfoldable pub faulty_line : Reading → ℕ → Line
faulty_line r number = if is_refused r number 0 then r.first else line_from r number section_numbers 0
