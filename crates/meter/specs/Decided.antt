-- What metering decides before it writes a row: its answer, which depends on how many rows are lent and not on what they hold, and how many rows that
-- answer says are written. Assumes nothing.
use Rattle.std.proofs.Math.Option.{Option, none, some}
use Rattle.std.specs.Prelude.{ℕ, ltb, if◌then◌else◌}
use Rattle.laws.specs.Loops.{count_to}
use Rattle.model.specs.declared.State.{State}
use Rattle.model.specs.declared.Answer.{Answer}
use Rattle.model.specs.declared.Answer.TheVariants.{Ok, Executes, Spins, Granted, Waits, Passed, Freed, Refused, RefusedWaiting}
use Rattle.model.specs.State.{places, here}
use Rattle.model.specs.Sound.{sound}
use Rattle.model.specs.Said.{Saying, ok, refused}
use Rattle.model.specs.Meter.{meter_refusal}

abbrev pub decided_by : Option ℕ → State → Answer
decided_by none st = Ok (count_to places (here st))
decided_by (some n) st = Refused n

unfoldable pub decided_on : State → ℕ → Answer
decided_on st lent = decided_by (meter_refusal st lent) st

abbrev pub written : Answer → ℕ
written (Ok n) = n
written (Executes t) = 0
written (Spins t) = 0
written (Granted r) = 0
written (Waits t) = 0
written (Passed t) = 0
written (Freed r) = 0
written (Refused n) = 0
written (RefusedWaiting r) = 0

-- rule 9.2 as a word and a number: in a sound state the rows are as many as tasks
unfoldable pub meter_said : State → ℕ → Saying
meter_said st lent = if sound st then (if ltb lent st.tasks then (refused, 22, none) else (ok, st.tasks, none)) else (refused, 1, none)
