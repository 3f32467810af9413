-- How the code of a replay goes: the text from a place on, the reading of the table, the test of the counts alone, and a replay past its table. The laws
-- that join each to the definitions of `Listing` are named beside it; nobody has to believe this file. Assumes nothing.
use Rattle.std.specs.Prelude.{◌≡◌, List, ◌++◌, ℕ, ◌*◌, ◌<◌, ◌≤◌, eqb, length, replicate, true, if◌then◌else◌, Result, Ok, Err, Some, None}
use Rattle.std.proofs.Math.Option.{none}
use Rattle.model.specs.declared.Entry.{Entry}
use Rattle.model.specs.declared.Table.{Table}
use Rattle.model.specs.declared.State.{State}
use Rattle.model.specs.declared.refusals.Refusal.{Refusal}
use Rattle.model.specs.Refusals.{refusal_no}
use Rattle.model.specs.State.{places}
use Rattle.model.specs.Shape.{Shaped}
use Rattle.model.specs.Sound.{counts_fit, sound}
use Rattle.model.specs.Fresh.{entry_at, entry_refusal}
use Rattle.trace.specs.declared.Place.{Place}
use Rattle.trace.specs.declared.Record.{Record}
use Rattle.trace.specs.Reading.{Read, items_at}
use Rattle.trace.specs.Order.{Stage, entering, complete, counted_table}
use Rattle.listing.specs.Listing.{Progress, beginning, started, stop_line, end_lines, items_text}
use Rattle.listing.specs.Replay.{room_each}
use Rattle.listing.specs.Writer.{Writes}
use Rattle.listing.specs.declared.Stop.{Stop}
use Rattle.listing.specs.declared.writer.Writer.{Writer}

-- the text from a place of the file on; from 0 at the beginning it is the listing (law `listing_read`)
unfoldable pub text_from : List ℕ → Progress → ℕ → List ℕ
text_from file p at = items_text (items_at file at) p

-- a record of the table with the place after it; where none can be read, the fault, or 32 (rule 13.6, law `table_unread`)
abbrev pub table_record : Read → Result (Record × Place) ℕ
table_record (Ok (Some found)) = Ok found
table_record (Ok None) = Err 32
table_record (Err n) = Err n

-- an entry that no test refuses, and a table of such entries: fresh refuses it for its counts alone (law `counts_tested`)
abbrev pub blameless : Entry
blameless = record { quota = 1; period = 1; declared = 0 }

abbrev pub counts_alone : ℕ → ℕ → ℕ → Table
counts_alone p t r = record { processors = p; tasks = t; resources = r; entry = replicate places blameless }

-- k entries of the table are read, and none is refused
pub record Entered (tb : Table) (k : ℕ) : Type 0 where
  pub fit : counts_fit tb.processors tb.tasks tb.resources ≡ true
  pub most : k ≤ tb.tasks
  pub whole : length tb.entry ≡ places
  pub good : (i : ℕ) → i < k → entry_refusal tb.resources (entry_at tb i) ≡ none

-- the stage once k entries are read
abbrev pub stage_at : ℕ → Table → Stage
stage_at k tb = if eqb k tb.tasks then complete tb else entering tb k

-- the table with k entries is read up to a place, and the text from there is the listing's
pub record Begun (file : List ℕ) (tb : Table) (at k : ℕ) : Type 0 where
  pub entered : Entered tb k
  pub inside : at ≤ length file
  pub same : text_from file (started (stage_at k tb)) at ≡ text_from file beginning 0

-- the listing is the line of a stop
abbrev pub Refuses : List ℕ → ℕ → Refusal → Type 0
Refuses file at refusal = stop_line at (refusal_no refusal) ≡ text_from file beginning 0

-- a replay past its table, on which the text no longer depends (law `running_is`)
abbrev pub running : State → ℕ → Progress
running st n = record { stage = complete (counted_table 0 0 0); state = st; events = n }

-- the table is read up to a place, and starts the state, with which the text from there is the listing's
pub record TableRead (file : List ℕ) (st : State) (at : ℕ) : Type 0 where
  pub inside : at ≤ length file
  pub shaped : Shaped st × (sound st ≡ true)
  pub same : text_from file (running st 0) at ≡ text_from file beginning 0

-- what a listing ends with: the close, or the line at which it stops
abbrev pub close : Result State Stop → List ℕ
close (Ok st) = end_lines st
close (Err stop) = stop_line stop.at (refusal_no stop.refusal)

-- the lines of the events of a file of n bytes are written, and with what is last of all they are the text
pub record Listed (n : ℕ) (before : Writer) (text last : List ℕ) (after : Writer) : Type 0 where
  pub lines : List ℕ
  pub writes : Writes (room_each * n) before lines after
  pub whole : lines ++ last ≡ text
