-- The order of a trace (rule 13.4), and the refusals that a record meets where it stands. Assumes nothing.
use Rattle.std.proofs.Math.Option.{Option, none, some}
use Rattle.std.specs.Prelude.{ℕ, ◌+◌, eqb, replicate, set, if◌then◌else◌}
use Rattle.model.specs.declared.Entry.{Entry}
use Rattle.model.specs.declared.Table.{Table}
use Rattle.model.specs.State.{places}
use Rattle.model.specs.Fresh.{no_entry, counts_refusal, entry_refusal}
use Rattle.trace.specs.declared.Record.{Record}
use Rattle.trace.specs.declared.Record.TheVariants.{Counts, Reservation, Happening}

-- rule 13.4: how much of the table is read, nothing; its counts and so many entries; all
pub data Stage : Type 0 where
  opening : Stage
  entering : Table → ℕ → Stage
  complete : Table → Stage

abbrev pub counted_table : ℕ → ℕ → ℕ → Table
counted_table p t r = record { processors = p; tasks = t; resources = r; entry = replicate places no_entry }

abbrev pub with_entry : Table → ℕ → Entry → Table
with_entry tb k e = record { processors = tb.processors; tasks = tb.tasks; resources = tb.resources; entry = set tb.entry k e }

-- 32 for what is out of order (rule 13.6); 19 to 21 as the table is read (rule 5.4)
abbrev pub order_refusal : Stage → Record → Option ℕ
order_refusal opening (Counts p t r) = counts_refusal (counted_table p t r)
order_refusal opening (Reservation e) = some 32
order_refusal opening (Happening e) = some 32
order_refusal (entering tb k) (Counts p t r) = some 32
order_refusal (entering tb k) (Reservation e) = entry_refusal tb.resources e
order_refusal (entering tb k) (Happening e) = some 32
order_refusal (complete tb) (Counts p t r) = some 32
order_refusal (complete tb) (Reservation e) = some 32
order_refusal (complete tb) (Happening e) = none

-- the stage after a record that is not refused there
abbrev pub advanced : Stage → Record → Stage
advanced opening (Counts p t r) = entering (counted_table p t r) 0
advanced opening (Reservation e) = opening
advanced opening (Happening e) = opening
advanced (entering tb k) (Counts p t r) = entering tb k
advanced (entering tb k) (Reservation e) =
    if eqb (k + 1) tb.tasks then complete (with_entry tb k e) else entering (with_entry tb k e) (k + 1)
advanced (entering tb k) (Happening e) = entering tb k
advanced (complete tb) (Counts p t r) = complete tb
advanced (complete tb) (Reservation e) = complete tb
advanced (complete tb) (Happening e) = complete tb

-- the longest file: rule 13.7
abbrev pub file_limit : ℕ
file_limit = 60000
