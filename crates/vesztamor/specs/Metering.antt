-- Meter rows in lent bytes: the row of a server, which docs/STATE.md has in a table, and what the exported function answers and leaves. Assumes nothing.
use Rattle.std.specs.Prelude.{List, ◌++◌, ℕ, ◌/◌, ◌%◌, eqb, length, if◌then◌else◌}
use Rattle.std.proofs.Math.Option.{Option, none, some}
use Rattle.laws.specs.Loops.{join_to}
use Rattle.lent_bytes.specs.Numbers.{one, four}
use Rattle.lent_bytes.specs.Writing.{stored}
use Rattle.model.specs.declared.Row.{Row}
use Rattle.model.specs.declared.State.{State}
use Rattle.model.specs.Said.{ok}
use Rattle.model.specs.Meter.{row_of, meter_refusal}
use Rattle.image.specs.Encoded.{phase_tag}
use Rattle.image.specs.Decoded.{decoded}
use Rattle.vesztamor.specs.Exported.{Exported, refusal}

-- the phase, then four numbers of four bytes
abbrev pub meter_row_size : ℕ
meter_row_size = 17

unfoldable pub row_bytes : Row → List ℕ
row_bytes r = one (phase_tag r.phase) ++ four r.budget ++ four r.own ++ four r.lent ++ four r.spin

unfoldable pub server_row_bytes : State → ℕ → List ℕ
server_row_bytes st s = row_bytes (row_of st s)

-- rule 9.1: the rows of the servers in use, one after the other, and what was there past them
unfoldable pub metered_bytes : State → ℕ → List ℕ → List ℕ
metered_bytes st n bytes = stored bytes 0 (join_to n (server_row_bytes st))

-- rule 9.2: `ok` and how many rows, or the refusal, which writes none
abbrev pub meter_left : Option ℕ → State → List ℕ → Exported
meter_left none st bytes = record { answer = (ok, st.tasks, none); bytes = metered_bytes st st.tasks bytes }
meter_left (some n) st bytes = refusal n bytes

-- bytes that are no state's are no sound state's, 1
abbrev pub meter_of : Option State → List ℕ → Exported
meter_of none bytes = refusal 1 bytes
meter_of (some st) bytes = meter_left (meter_refusal st (length bytes / meter_row_size)) st bytes

-- memory that is not whole rows is `refused` and 0
unfoldable pub meter_export : List ℕ → List ℕ → Exported
meter_export state bytes = if eqb (length bytes % meter_row_size) 0 then meter_of (decoded state) bytes else refusal 0 bytes
