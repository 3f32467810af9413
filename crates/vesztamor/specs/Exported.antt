-- What each exported function answers, and what it leaves of the bytes lent to it. A refusal leaves them as they were. Assumes nothing.
use Rattle.std.specs.Prelude.{Bool, false, List, ◌++◌, ℕ, ◌/◌, ◌%◌, ◌^◌, eqb, length, replicate, if◌then◌else◌, Ok, Err}
use Rattle.std.proofs.Math.Option.{Option, none, some}
use Rattle.lent_bytes.specs.Numbers.{four}
use Rattle.model.specs.declared.Event.{Event}
use Rattle.model.specs.declared.Outcome.{Outcome}
use Rattle.model.specs.declared.State.{State}
use Rattle.model.specs.Sound.{sound}
use Rattle.model.specs.Step.{stepped}
use Rattle.model.specs.Fresh.{fresh_of}
use Rattle.model.specs.Said.{ok, refused, Saying, said, is_refused}
use Rattle.settle.specs.Doing.{doing, said_doing}
use Rattle.model.specs.Verdicts.{Verdict}
use Rattle.bound.specs.Answer.{Bounded, answer}
use Rattle.listing.specs.Replay.{replayed, buffer_after, said_replayed}
use Rattle.image.specs.Layout.{image_size}
use Rattle.trace.specs.Reading.{is_event, event_of}
use Rattle.image.specs.Encoded.{encoded}
use Rattle.image.specs.Decoded.{decoded}
use Rattle.vesztamor.specs.Tables.{is_table, table_in, is_sections, sections_in}

-- the number of the layouts, which goes up whenever the bytes of a state, a table, a row or an answer change. It is told as it is, without a word
abbrev pub layout : ℕ
layout = 1

pub record Exported : Type 0 where
  pub answer : Saying
  pub bytes : List ℕ

abbrev pub refusal : ℕ → List ℕ → Exported
refusal n bytes = record { answer = (refused, n, none); bytes = bytes }

unfoldable pub zeros : List ℕ
zeros = replicate image_size 0

-- a fresh state in place of the bytes, written over zeros, so that there is 0 in every byte past its counts (rule 5.3): `ok` and 0. Memory that has not
-- the length of a state is `refused` and 0; bytes that are no table have wrong counts, 19 (rule 5.4).
abbrev pub fresh_left : Verdict → State → List ℕ → Exported
fresh_left (Ok made) st bytes = record { answer = (ok, 0, none); bytes = encoded st zeros }
fresh_left (Err n) st bytes = refusal n bytes

unfoldable pub fresh_export : List ℕ → List ℕ → Exported
fresh_export table bytes =
    if eqb (length bytes) image_size
    then (if is_table table then fresh_left (fresh_of (table_in table)).answer (fresh_of (table_in table)).state bytes else refusal 19 bytes)
    else refusal 0 bytes

-- whether bytes hold a sound state; those that hold none do not
abbrev pub is_sound_in : Option State → Bool
is_sound_in none = false
is_sound_in (some st) = sound st

unfoldable pub sound_export : List ℕ → Saying
sound_export bytes = if is_sound_in (decoded bytes) then (ok, 0, none) else (refused, 1, none)

-- the task that a server executes or spins for (rule 3.4); a server that is not Running is told as `ok` and 0
abbrev pub doing_told : Option Saying → Saying
doing_told none = (ok, 0, none)
doing_told (some said) = said

abbrev pub executing_said : Option State → ℕ → Saying
executing_said none s = (refused, 1, none)
executing_said (some st) s = doing_told (said_doing (doing st s))

unfoldable pub executing_export : List ℕ → ℕ → Saying
executing_export bytes s = executing_said (decoded bytes) s

abbrev pub step_left : Outcome → List ℕ → Exported
step_left o bytes = record { answer = said o.answer; bytes = if is_refused o.answer then bytes else encoded o.state bytes }

abbrev pub step_by : Option State → Event → List ℕ → Exported
step_by none e bytes = refusal 1 bytes
step_by (some st) e bytes = step_left (stepped st e) bytes

-- an event by the kind's number of a trace. Refusals are told in this order: 1 for bytes that hold no sound state, 31 for a kind that is no event's, and
-- then what the event's own tests say (rule 10.2).
unfoldable pub step_export : List ℕ → ℕ → ℕ → ℕ → ℕ → Exported
step_export bytes kind number resource ticks =
    if is_event kind
    then step_by (decoded bytes) (event_of kind number resource ticks) bytes
    else refusal (if is_sound_in (decoded bytes) then 31 else 1) bytes

-- the bound in eight bytes and the weighings in four, in place of the bytes lent for them: `ok` and 12. Memory of another length is `refused` and 0;
-- bytes that are no table of sections have wrong counts, 40.
abbrev pub bound_size : ℕ
bound_size = 12

unfoldable pub bound_bytes : ℕ → ℕ → List ℕ
bound_bytes value weighings = four (value % 2 ^ 32) ++ four (value / 2 ^ 32) ++ four weighings

abbrev pub bound_left : Bounded → List ℕ → Exported
bound_left (Ok found) bytes = record { answer = (ok, bound_size, none); bytes = bound_bytes found.value found.weighings }
bound_left (Err n) bytes = refusal n bytes

unfoldable pub bound_export : List ℕ → ℕ → ℕ → List ℕ → Exported
bound_export sections task allowance bytes =
    if eqb (length bytes) bound_size
    then (if is_sections sections then bound_left (answer (sections_in sections) task allowance) bytes else refusal 40 bytes)
    else refusal 0 bytes

-- the text of a replay at the start of the bytes lent for it: `ok` and how long the text is. Memory too short for a trace of that length is `refused`
-- and 0.
unfoldable pub replay_export : List ℕ → List ℕ → Exported
replay_export trace bytes = record { answer = said_replayed (replayed trace (length bytes)); bytes = buffer_after trace bytes }
