-- Words, fields and lines as bytes (rule 14.5). Assumes nothing.
use Rattle.std.specs.Prelude.{List, [], ◌++◌, ℕ, ◌+◌, ◌*◌}
use Rattle.std.proofs.Math.Option.{Option, none, some}
use Rattle.lent_bytes.specs.Text.{bytes, digits_most, decimal}
use Rattle.model.specs.declared.Phase.{Phase}
use Rattle.model.specs.declared.Phase.TheVariants.{Idle, Active, Running, Recharging}
use Rattle.model.specs.State.{places}
use Rattle.model.specs.Said.{Word, ok, executes, spins, granted, waits, passed, freed, refused}

-- rule 14.5: a field after a space, in decimal; and what ends a line
unfoldable pub field : ℕ → List ℕ
field n = bytes " " ++ decimal n

unfoldable pub newline : List ℕ
newline = bytes "\n"

unfoldable pub spelled : Word → List ℕ
spelled ok = bytes "ok"
spelled executes = bytes "executes"
spelled spins = bytes "spins"
spelled granted = bytes "granted"
spelled waits = bytes "waits"
spelled passed = bytes "passed"
spelled freed = bytes "freed"
spelled refused = bytes "refused"

-- what follows an answer's number, where something does
abbrev pub following : Option ℕ → List ℕ
following none = []
following (some n) = field n

unfoldable pub phase_word : Phase → List ℕ
phase_word Idle = bytes "idle"
phase_word Active = bytes "active"
phase_word Running = bytes "running"
phase_word Recharging = bytes "recharging"

-- the longest that each can be, in bytes (laws of `Lengths`)
abbrev pub field_most : ℕ
field_most = digits_most + 1

abbrev pub pair_most : ℕ
pair_most = field_most + field_most

abbrev pub phase_most : ℕ
phase_most = 10

-- an answer's word has at most eight letters, and at most two numbers stand after it
abbrev pub answer_most : ℕ
answer_most = 8 + pair_most

-- a line of `stop` or `task` and two numbers
abbrev pub short_line_most : ℕ
short_line_most = 4 + pair_most + 1

abbrev pub event_line_most : ℕ
event_line_most = digits_most + 1 + answer_most + 1

-- a server's line up to its phase, and whole
abbrev pub server_phase_most : ℕ
server_phase_most = 6 + field_most + 1 + phase_most

abbrev pub server_line_most : ℕ
server_line_most = server_phase_most + pair_most + pair_most + field_most + 1

-- the line of `end`, and one for each server and task
abbrev pub end_lines_most : ℕ
end_lines_most = 3 + field_most + 1 + places * server_line_most + places * short_line_most
