-- What `replay` answers and what it leaves in the buffer lent to it. Assumes nothing.
use Rattle.std.specs.Prelude.{List, ℕ, ◌+◌, ◌*◌, leb, length, if◌then◌else◌, Result, Ok, Err}
use Rattle.std.proofs.Math.Option.{none}
use Rattle.lent_bytes.specs.Writing.{stored}
use Rattle.model.specs.Said.{Saying, ok, refused}
use Rattle.trace.specs.Order.{file_limit}
use Rattle.listing.specs.declared.TooShort.{TooShort}
use Rattle.listing.specs.Listing.{listing}

-- How long a buffer must be for a file of so many bytes (law `listing_fits`): an event's line has at most 72 bytes and its record 6 or more, which is
-- no more than 13 for each, and the lines after the events have at most 3,081.
abbrev pub room_each : ℕ
room_each = 13

abbrev pub room_more : ℕ
room_more = 4000

unfoldable pub room : ℕ → ℕ
room n = room_each * n + room_more

-- the buffers of a program that replays: for a file up to one byte past the limit, for the listing of every such file, and for that of a short one
abbrev pub file_bytes : ℕ
file_bytes = file_limit + 1

abbrev pub text_bytes : ℕ
text_bytes = room file_bytes

abbrev pub short_file : ℕ
short_file = 4000

abbrev pub short_text_bytes : ℕ
short_text_bytes = room short_file

-- the answer, from the file and the length of the buffer
abbrev pub Replayed : Type 0
Replayed = Result ℕ TooShort

unfoldable pub replayed : List ℕ → ℕ → Replayed
replayed file lent = if leb (room (length file)) lent then Ok (length (listing file)) else Err (record {})

-- the buffer afterwards: the whole text and, after it, what stood there; a buffer that is too short stays as it was
unfoldable pub buffer_after : List ℕ → List ℕ → List ℕ
buffer_after file lent = if leb (room (length file)) (length lent) then stored lent 0 (listing file) else lent

-- the rules have no number for a buffer that is too short: it is told as `refused` and 0
abbrev pub said_replayed : Replayed → Saying
said_replayed (Ok n) = (ok, n, none)
said_replayed (Err short) = (refused, 0, none)
