-- What reading a record at a place of a trace gives: rules 13.1 to 13.5 and 13.8. Assumes nothing.
use Rattle.std.specs.Prelude.{Bool, not, ◌&&◌, ◌||◌, List, [], ◌∷◌, ℕ, zero, suc, ◌+◌, ◌-◌, ltb, leb, eqb, length, if◌then◌else◌, Result, Ok, Err, Some, None}
use Rattle.std.specs.Prelude as rust
use Rattle.std.proofs.Math.Option.{Option, none, some}
use Rattle.laws.specs.Tests.{◌when◌or◌, accepted, first_of}
use Rattle.lent_bytes.specs.Numbers.{two_bytes, four_bytes}
use Rattle.model.specs.declared.Entry.{Entry}
use Rattle.model.specs.declared.Event.{Event}
use Rattle.model.specs.declared.Event.TheVariants.{Wake, Suspend, Dispatch, Preempt, Elapse, Recharge, Lock, Unlock}
use Rattle.trace.specs.declared.Record.{Record}
use Rattle.trace.specs.declared.Record.TheVariants.{Counts, Reservation, Happening}
use Rattle.trace.specs.declared.Place.{Place}

-- the bytes of a kind's body, 0 for an unknown kind: rules 13.2 and 13.3
unfoldable pub body_length : ℕ → ℕ
body_length kind =
    if (leb 1 kind && leb kind 4) || eqb kind 6
    then 2
    else if eqb kind 5 || (leb 7 kind && leb kind 8)
    then 4
    else if eqb kind 16
    then 6
    else if eqb kind 17
    then 10
    else 0

-- a task's line: rule 13.3
unfoldable pub entry_in : List ℕ → ℕ → Entry
entry_in file at = record { quota = four_bytes file at; period = four_bytes file (at + 4); declared = two_bytes file (at + 8) }

-- the kinds of events: rule 13.2
abbrev pub is_event : ℕ → Bool
is_event kind = leb 1 kind && leb kind 8

-- the event of an event's kind, from its operands; each kind looks at its own alone
abbrev pub event_of : ℕ → ℕ → ℕ → ℕ → Event
event_of kind number resource ticks =
    if eqb kind 1
    then Wake (record { 0 = number })
    else if eqb kind 2
    then Suspend (record { 0 = number })
    else if eqb kind 3
    then Dispatch (record { 0 = number })
    else if eqb kind 4
    then Preempt (record { 0 = number })
    else if eqb kind 5
    then Elapse ticks
    else if eqb kind 6
    then Recharge (record { 0 = number })
    else if eqb kind 7
    then Lock (record { 0 = number }) resource
    else Unlock (record { 0 = number }) resource

-- the record of a known kind, with its body at an offset: rules 13.2 and 13.3
unfoldable pub record_in : ℕ → List ℕ → ℕ → Record
record_in kind file at =
    if is_event kind
    then Happening (event_of kind (two_bytes file at) (two_bytes file (at + 2)) (four_bytes file at))
    else if eqb kind 16
    then Counts (two_bytes file at) (two_bytes file (at + 2)) (two_bytes file (at + 4))
    else Reservation (entry_in file at)

-- the faults of a record in their order: rule 13.5
unfoldable pub read_fault : List ℕ → ℕ → Option ℕ
read_fault file at =
    first_of (
    30 when ltb (length file - at) 2 or
    31 when ltb (two_bytes file at) 2 or
    30 when ltb (length file - at - 2) (two_bytes file at) or
    31 when eqb (body_length (two_bytes file (at + 2))) 0 or
    31 when not (eqb (body_length (two_bytes file (at + 2)) + 2) (two_bytes file at)) or
    accepted
    )

-- what reading at a place finds: a record with the place after it, nothing at the file's end, or a fault: rule 13.8
abbrev pub Read : Type 0
Read = Result (rust.Option (Record × Place)) ℕ

abbrev pub got : Record → Place → Read
got r next = Ok (Some (r, next))

abbrev pub ended : Read
ended = Ok None

abbrev pub fault : ℕ → Read
fault n = Err n

-- a record (rule 13.1) and the place after it, or the fault: rule 13.8
abbrev pub read_by : Option ℕ → List ℕ → ℕ → Read
read_by none file at = got (record_in (two_bytes file (at + 2)) file (at + 4)) (record { at = at + 2 + two_bytes file at })
read_by (some n) file at = fault n

unfoldable pub read_at : List ℕ → ℕ → Read
read_at file at = if leb (length file) at then ended else read_by (read_fault file at) file at

-- what a file holds from a place on: each reading with its offset, up to the file's end or its first fault. A record is 6 bytes or longer,
-- so that the file's length is fuel enough (law `items_is`).
abbrev pub items_after : (ℕ → List (ℕ × Read)) → Read → List (ℕ × Read)
items_after rest (Ok (Some found)) = rest found.1.at
items_after rest (Ok None) = []
items_after rest (Err n) = []

unfoldable pub items_from : ℕ → List ℕ → ℕ → List (ℕ × Read)
items_from zero file at = []
items_from (suc left) file at = (at, read_at file at) ∷ items_after (items_from left file) (read_at file at)

unfoldable pub items_at : List ℕ → ℕ → List (ℕ × Read)
items_at file at = items_from (suc (length file)) file at

unfoldable pub items : List ℕ → List (ℕ × Read)
items file = items_at file 0
