-- The tables that a caller hands over in bytes, as docs/STATE.md has them. Assumes nothing.
use Rattle.std.specs.Prelude.{Bool, ◌&&◌, List, ℕ, ◌+◌, ◌*◌, ltb, leb, eqb, length, replicate, if◌then◌else◌, Some, None}
use Rattle.laws.specs.Loops.{set_to}
use Rattle.lent_bytes.specs.Numbers.{byte_at, two_bytes, four_bytes}
use Rattle.model.specs.declared.Entry.{Entry}
use Rattle.model.specs.declared.Table.{Table}
use Rattle.model.specs.State.{places}
use Rattle.model.specs.Fresh.{no_entry}
use Rattle.bound.specs.declared.Section.{Section}
use Rattle.bound.specs.declared.Sections.{Sections}
use Rattle.bound.specs.Table.{Parent, no_section}
use Rattle.trace.specs.Reading.{entry_in}

-- a header, then rows of one size, as many as the header's second number says, and no more
unfoldable pub is_sized : ℕ → ℕ → List ℕ → Bool
is_sized header size bytes = leb header (length bytes) && eqb (length bytes) (header + size * two_bytes bytes 2)

-- row i, or nothing past the count
unfoldable pub row_in : {A : Type 0} → (List ℕ → ℕ → A) → A → ℕ → ℕ → List ℕ → ℕ → A
row_in get nothing header size bytes i = if ltb i (two_bytes bytes 2) then get bytes (header + size * i) else nothing

-- processors, tasks, resources, then a line of ten bytes for each task
abbrev pub is_table : List ℕ → Bool
is_table bytes = is_sized 6 10 bytes

abbrev pub line_in : List ℕ → ℕ → Entry
line_in bytes t = row_in entry_in no_entry 6 10 bytes t

unfoldable pub table_in : List ℕ → Table
table_in bytes = record {
  processors = two_bytes bytes 0;
  tasks = two_bytes bytes 2;
  resources = two_bytes bytes 4;
  entry = set_to places (line_in bytes) (replicate places no_entry);
}

-- tasks, how many sections, then nine bytes for each section
abbrev pub is_sections : List ℕ → Bool
is_sections bytes = is_sized 4 9 bytes

-- 255 for a section that stands in none
abbrev pub parent_of : ℕ → Parent
parent_of b = if eqb b 255 then None else Some b

-- task, resource, length and parent
unfoldable pub section_in : List ℕ → ℕ → Section
section_in bytes at = record {
  task = record { 0 = two_bytes bytes at };
  resource = two_bytes bytes (at + 2);
  length = four_bytes bytes (at + 4);
  parent = parent_of (byte_at bytes (at + 8));
}

abbrev pub section_of : List ℕ → ℕ → Section
section_of bytes i = row_in section_in no_section 4 9 bytes i

unfoldable pub sections_in : List ℕ → Sections
sections_in bytes = record {
  tasks = two_bytes bytes 0;
  count = two_bytes bytes 2;
  section = set_to 12 (section_of bytes) (replicate 12 no_section);
}
