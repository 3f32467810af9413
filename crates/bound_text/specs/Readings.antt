-- What a table's text is read as: what the end of a line does to what was read before it, and the whole text byte by byte. Assumes nothing.
use Rattle.std.specs.Prelude.{Bool, true, false, not, List, ℕ, ◌+◌, ltb, eqb, length, get_or, set, replicate, if◌then◌else◌, Option, Some, None, is_none}
use Rattle.laws.specs.Loops.{fold_to}
use Rattle.bound.specs.declared.Section.{Section}
use Rattle.bound.specs.Table.{Parent, section_numbers, no_section}
use Rattle.bound_text.specs.declared.Line.{Line}
use Rattle.bound_text.specs.declared.Reading.{Reading}
use Rattle.bound_text.specs.declared.State.{State}
use Rattle.bound_text.specs.Lines.{field_numbers, greatest, no_line, with_byte}

abbrev pub reading_said : ℕ → Option ℕ → Bool → ℕ → List Section → List ℕ → Option ℕ → ℕ → Reading
reading_said tasks first clear count section lines surplus line =
    record {
      tasks = tasks;
      first = first;
      clear = clear;
      count = count;
      section = section;
      lines = lines;
      surplus = surplus;
      line = line;
    }

abbrev pub no_reading : Reading
no_reading = reading_said 0 None true 0 (replicate section_numbers no_section) (replicate section_numbers 0) None 1

-- the greatest number of 16 bits
abbrev pub greatest_short : ℕ
greatest_short = 65535

-- a number as the table holds it, or the greatest that it can hold
abbrev pub short : ℕ → ℕ
short n = if ltb n greatest_short then n else greatest_short

abbrev pub parent_said : Line → Parent
parent_said l = if l.outermost then None else Some (short (get_or l.value 3 0))

abbrev pub section_said : Line → Section
section_said l =
    record {
      task = record { 0 = short (get_or l.value 0 0) };
      resource = short (get_or l.value 1 0);
      length = get_or l.value 2 0;
      parent = parent_said l;
    }

-- the line is not understood
abbrev pub lost : Reading → Reading
lost r = reading_said r.tasks r.first false r.count r.section r.lines r.surplus r.line

-- the next line
unfoldable pub advanced : Reading → Reading
advanced r =
    if not r.clear then r
    else if eqb r.line greatest then r
    else reading_said r.tasks r.first r.clear r.count r.section r.lines r.surplus (r.line + 1)

-- the first line that is not blank: the number of tasks
unfoldable pub with_tasks : Reading → Line → Reading
with_tasks r l =
    if eqb l.fields 1 then reading_said (short (get_or l.value 0 0)) (Some r.line) r.clear r.count r.section r.lines r.surplus r.line
    else lost r

-- each other: a section, kept if it is one of the first twelve; of those past them the line of the first is
unfoldable pub with_section : Reading → Line → Reading
with_section r l =
    let sections = set r.section r.count (section_said l) in
    let lines = set r.lines r.count r.line in
    if not (eqb l.fields field_numbers) then lost r
    else if ltb section_numbers r.count then r
    else if eqb r.count section_numbers then reading_said r.tasks r.first r.clear (section_numbers + 1) r.section r.lines (Some r.line) r.line
    else reading_said r.tasks r.first r.clear (r.count + 1) sections lines r.surplus r.line

unfoldable pub ended : Reading → Line → Reading
ended r l =
    if not r.clear then r
    else if not l.clear then lost r
    else if eqb l.fields 0 then r
    else if is_none r.first then with_tasks r l
    else with_section r l

-- a byte of the text: 10 ends a line
unfoldable pub taken : ℕ → State → State
taken byte st =
    if eqb byte 10 then record { reading = advanced (ended st.reading st.line); line = no_line }
    else record { reading = st.reading; line = with_byte st.line byte }

unfoldable pub taken_at : List ℕ → ℕ → State → State
taken_at text i = taken (get_or text i 0)

unfoldable pub read_from : List ℕ → Reading
read_from text =
    let last = fold_to (length text) (taken_at text) (record { reading = no_reading; line = no_line }) in
    ended last.reading last.line

unfoldable pub byte_at : List ℕ → ℕ → Line → Line
byte_at text i l = with_byte l (get_or text i 0)

-- a number by itself; any other text is none
unfoldable pub number_from : List ℕ → Option ℕ
number_from text =
    let l = fold_to (length text) (byte_at text) no_line in
    if not l.clear then None else if not (eqb l.fields 1) then None else Some (get_or l.value 0 0)
