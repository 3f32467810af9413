-- Meter rows, which a caller lends: rules 9.1 and 9.2. Assumes nothing.
use Rattle.std.specs.Prelude.{not, List, ℕ, ltb, length, get_or, if◌then◌else◌}
use Rattle.std.proofs.Math.Option.{Option, none, some}
use Rattle.laws.specs.Tests.{◌when◌or◌, accepted, first_of}
use Rattle.laws.specs.Loops.{count_to, set_to}
use Rattle.model.specs.declared.Phase.TheVariants.{Idle}
use Rattle.model.specs.declared.State.{State}
use Rattle.model.specs.declared.Row.{Row}
use Rattle.model.specs.declared.Answer.{Answer}
use Rattle.model.specs.declared.Answer.TheVariants.{Ok, Refused}
use Rattle.model.specs.State.{ServerNumber, places, server_at, here}
use Rattle.model.specs.Sound.{sound}

-- rule 9.1: what row s receives of server s
unfoldable pub row_of : State → ServerNumber → Row
row_of st s = record {
  phase = (server_at st s).phase;
  budget = (server_at st s).budget;
  own = (server_at st s).own;
  lent = (server_at st s).lent;
  spin = (server_at st s).spin;
}

abbrev pub no_row : Row
no_row = record { phase = Idle; budget = 0; own = 0; lent = 0; spin = 0 }

-- rule 9.1: a row for each server in use, further rows stay
unfoldable pub metered_row : State → List Row → ServerNumber → Row
metered_row st rows s = if here st s then row_of st s else get_or rows s no_row

unfoldable pub metered_rows : State → List Row → List Row
metered_rows st rows = set_to places (metered_row st rows) rows

-- rule 9.2: 1 for an unsound state, then 22 for fewer rows than tasks
unfoldable pub meter_refusal : State → ℕ → Option ℕ
meter_refusal st lent = first_of (1 when not (sound st) or 22 when ltb lent st.tasks or accepted)

abbrev pub meter_by : Option ℕ → State → List Row → Answer × List Row
meter_by none st rows = (Ok (count_to places (here st)), metered_rows st rows)
meter_by (some n) st rows = (Refused n, rows)

-- rule 9.2: the answer, and the rows at exit
unfoldable pub metered : State → List Row → Answer × List Row
metered st rows = meter_by (meter_refusal st (length rows)) st rows
