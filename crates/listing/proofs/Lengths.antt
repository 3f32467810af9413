-- The longest that each line and the whole text can be: every listing fits the room that its file's length asks (`listing_fits`). Assumes nothing.
use Rattle.std.specs.Prelude.{if◌then◌else◌, Ok, Err, Some, None}
use mathlib.Core.Path.{◌≡◌, refl}
use mathlib.Core.Bool.{Bool, true, false}
use mathlib.Core.List.{List, []}
use mathlib.Core.Option.{Option, none, some}
use Prim.Native.Nat.{ℕ, zero, suc, ◌+◌, ◌-◌, ◌*◌, ◌/◌, ◌≤◌}
use native.Mathlib.Omega.{arith}
use lib.Dec.{ltb}
use lib.ListN.{length, length-append}
use Rattle.laws.proofs.Join.{join_most}
use Rattle.model.specs.declared.Phase.{Phase}
use Rattle.model.specs.declared.Phase.TheVariants.{Idle, Active, Running, Recharging}
use Rattle.model.specs.declared.State.{State}
use Rattle.model.specs.declared.Answer.{Answer}
use Rattle.model.specs.Said.{Word, ok, executes, spins, granted, waits, passed, freed, refused, said}
use Rattle.model.specs.State.{places, here, server_at, task_at}
use Rattle.model.specs.Step.{stepped}
use Rattle.trace.specs.declared.Record.{Record}
use Rattle.trace.specs.declared.Record.TheVariants.{Counts, Reservation, Happening}
use Rattle.trace.specs.Reading.{Read, read_at, items_after, items_from, items_at, items}
use Rattle.trace.specs.Order.{Stage, opening, entering, complete, order_refusal, advanced, file_limit}
use Rattle.trace.proofs.Items.{read_moves}
use Rattle.lent_bytes.specs.Text.{bytes, digits, digits_most, decimal}
use Rattle.listing.specs.Text.{field, following, newline, spelled, phase_word, field_most, phase_most, short_line_most, event_line_most, server_line_most, end_lines_most}
use Rattle.listing.specs.Listing.{Progress, beginning, started, continued, event_line, stop_line, server_text, server_line, task_text, task_line, end_lines, end_text, record_text, read_text, items_text, listing}
use Rattle.listing.specs.Replay.{room_each, room_more, room}

either_most : (b : Bool) (xs ys : List ℕ) (m : ℕ) → length xs ≤ m → length ys ≤ m → length (if b then xs else ys) ≤ m
either_most true xs ys m h k = h
either_most false xs ys m h k = k

digits_most_lem : (left n : ℕ) → length (digits left n) ≤ left
unfolding digits
digits_most_lem zero n = omega arith
digits_most_lem (suc left) n =
    simp length-append (omega (arith, either_most (ltb n 10) [] (digits left (n / 10)) left (omega arith) (digits_most_lem left (n / 10))))

field_most_lem : (n : ℕ) → length (field n) ≤ field_most
unfolding field bytes decimal
field_most_lem n = simp length-append (omega (arith, digits_most_lem digits_most n))

following_most : (o : Option ℕ) → length (following o) ≤ field_most
following_most none = omega arith
following_most (some n) = field_most_lem n

spelled_most : (w : Word) → length (spelled w) ≤ 8
unfolding spelled bytes
spelled_most ok = omega arith
spelled_most executes = omega arith
spelled_most spins = omega arith
spelled_most granted = omega arith
spelled_most waits = omega arith
spelled_most passed = omega arith
spelled_most freed = omega arith
spelled_most refused = omega arith

phase_most_lem : (p : Phase) → length (phase_word p) ≤ phase_most
unfolding phase_word bytes
phase_most_lem Idle = omega arith
phase_most_lem Active = omega arith
phase_most_lem Running = omega arith
phase_most_lem Recharging = omega arith

event_most : (n : ℕ) (a : Answer) → length (event_line n a) ≤ event_line_most
unfolding event_line bytes newline decimal
event_most n a =
    simp length-append
    (omega (arith, digits_most_lem digits_most n, spelled_most (said a).0, field_most_lem (said a).1, following_most (said a).2))

stop_most : (at n : ℕ) → length (stop_line at n) ≤ short_line_most
unfolding stop_line bytes newline
stop_most at n = simp length-append (omega (arith, field_most_lem at, field_most_lem n))

server_most : (st : State) (s : ℕ) → length (server_line st s) ≤ server_line_most
unfolding server_line bytes newline
server_most st s =
    either_most (here st s) (server_text s (server_at st s)) [] server_line_most
    (simp length-append
    (omega (
      arith,
      field_most_lem s,
      phase_most_lem (server_at st s).phase,
      field_most_lem (server_at st s).budget,
      field_most_lem (server_at st s).deadline,
      field_most_lem (server_at st s).own,
      field_most_lem (server_at st s).lent,
      field_most_lem (server_at st s).spin,
    )))
    (omega arith)

task_most : (st : State) (t : ℕ) → length (task_line st t) ≤ short_line_most
unfolding task_line bytes newline
task_most st t =
    either_most (here st t) (task_text t (task_at st t).executed) [] short_line_most
    (simp length-append (omega (arith, field_most_lem t, field_most_lem (task_at st t).executed)))
    (omega arith)

end_most : (st : State) → length (end_lines st) ≤ end_lines_most
unfolding end_lines bytes newline
end_most st =
    simp length-append
    (omega (arith, field_most_lem st.clock, join_most (server_line st) server_line_most (server_most st) places, join_most (task_line st) short_line_most (task_most st) places))

closing_most : (stage : Stage) (st : State) (at : ℕ) → length (end_text stage st at) ≤ room_more
closing_most opening st at = omega (arith, stop_most at 32)
closing_most (entering tb k) st at = omega (arith, stop_most at 32)
closing_most (complete tb) st at = omega (arith, end_most st)

-- what is left of a file of n bytes from a place on
abbrev left_over : ℕ → ℕ → ℕ
left_over n at = room_each * (n - at) + room_more

record_most
    : (rest : Progress → List ℕ) (p : Progress) (at next n : ℕ) (o : Option ℕ) (r : Record)
    → at + 6 ≤ next → next ≤ n → ((q : Progress) → length (rest q) ≤ left_over n next) → length (record_text rest p at o r) ≤ left_over n at
record_most rest p at next n (some k) r a b h = omega (arith, stop_most at k)
record_most rest p at next n none (Counts x y z) a b h = omega (arith, h (started (advanced p.stage (Counts x y z))))
record_most rest p at next n none (Reservation x) a b h = omega (arith, h (started (advanced p.stage (Reservation x))))
record_most rest p at next n none (Happening x) a b h = simp length-append (omega (arith, event_most (p.events + 1) (stepped p.state x).answer, h (continued p x)))

read_most
    : (left : ℕ) (file : List ℕ) (at : ℕ) (p : Progress) (r : Read) → read_at file at ≡ r
    → ((next : ℕ) (q : Progress) → length (items_text (items_from left file next) q) ≤ left_over (length file) next)
    → length (read_text (items_text (items_after (items_from left file) r)) p at r) ≤ left_over (length file) at
read_most left file at p (Ok (Some found)) e h =
    let m = read_moves file at found.0 found.1 e in
    record_most (items_text (items_from left file found.1.at)) p at found.1.at (length file) (order_refusal p.stage found.0) found.0 m.0 m.1 (h found.1.at)
read_most left file at p (Ok None) e h = omega (arith, closing_most p.stage p.state at)
read_most left file at p (Err n) e h = omega (arith, stop_most at n)

items_most : (left : ℕ) (file : List ℕ) (at : ℕ) (p : Progress) → length (items_text (items_from left file at) p) ≤ left_over (length file) at
unfolding items_from items_text
items_most zero file at p = omega arith
items_most (suc left) file at p = read_most left file at p (read_at file at) refl (items_most left file)

pub listing_fits : (file : List ℕ) → length (listing file) ≤ room (length file)
unfolding listing room items items_at
listing_fits file =
    either_most (ltb file_limit (length file)) (stop_line 0 33) (items_text (items file) beginning) (room (length file))
    (omega (arith, stop_most 0 33))
    (omega (arith, items_most (suc (length file)) file 0 beginning))
