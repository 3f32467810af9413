-- What a byte does to a line of a table's text: numbers and a dash with blanks between them, and a comment. Assumes nothing.
use Rattle.std.specs.Prelude.{Bool, true, false, ◌&&◌, ◌||◌, List, ℕ, ◌+◌, ◌-◌, ◌*◌, ◌/◌, ltb, leb, eqb, get_or, set, replicate, if◌then◌else◌}
use Rattle.bound_text.specs.declared.Line.{Line}

-- the fields of a section's line
abbrev pub field_numbers : ℕ
field_numbers = 4

-- the greatest number of 32 bits
abbrev pub greatest : ℕ
greatest = 4294967295

abbrev pub line_said : ℕ → List ℕ → Bool → Bool → Bool → Bool → Line
line_said fields value inside outermost clear comment =
    record { fields = fields; value = value; inside = inside; outermost = outermost; clear = clear; comment = comment }

abbrev pub no_line : Line
no_line = line_said 0 (replicate field_numbers 0) false false true false

-- the line is not understood
abbrev pub unclear : Line → Line
unclear l = line_said l.fields l.value l.inside l.outermost false l.comment

-- a number with one digit more, or the greatest
abbrev pub appended : ℕ → ℕ → ℕ
appended n digit = if ltb n (greatest / 10) then n * 10 + digit else greatest

-- the first digit of a field, of which there are four
unfoldable pub opened : Line → ℕ → Line
opened l digit =
    if leb field_numbers l.fields then unclear l
    else line_said (l.fields + 1) (set l.value l.fields digit) true l.outermost l.clear l.comment

-- a further digit of the last field
unfoldable pub longer : Line → ℕ → Line
longer l digit =
    let last = l.fields - 1 in
    let value = set l.value last (appended (get_or l.value last 0) digit) in
    if eqb l.fields 0 then unclear l
    else if ltb field_numbers l.fields then unclear l
    else line_said l.fields value l.inside l.outermost l.clear l.comment

unfoldable pub with_digit : Line → ℕ → Line
with_digit l digit = if l.outermost then unclear l else if l.inside then longer l digit else opened l digit

-- a dash is a fourth field by itself
unfoldable pub with_dash : Line → Line
with_dash l =
    if l.inside then unclear l
    else if eqb l.fields 3 then line_said 4 l.value l.inside true l.clear l.comment
    else unclear l

-- # 0..9 - and blanks; after # nothing is looked at
unfoldable pub with_byte : Line → ℕ → Line
with_byte l byte =
    if l.comment then l
    else if eqb byte 35 then line_said l.fields l.value l.inside l.outermost l.clear true
    else if leb 48 byte && leb byte 57 then with_digit l (byte - 48)
    else if eqb byte 45 then with_dash l
    else if eqb byte 32 || eqb byte 9 || eqb byte 13 then line_said l.fields l.value false l.outermost l.clear l.comment
    else unclear l
