-- `listing::happenings::put_events` meets its contract: room for the last lines, for a stop and for an event's line; the text so far with what is
-- still to come is the whole. Assumes nothing.
use mathlib.Core.Path.{sym, ap, ◌∙◌}
use native.Mathlib.Omega.{arith}
use Rattle.std.specs.Prelude.{Ok}
use Rattle.trace.specs.Reading.{got}
use Rattle.trace.specs.Order.{counted_table}
use Rattle.trace.proofs.Items.{read_moves}
use Rattle.listing.specs.Text.{event_line_most}
use Rattle.listing.specs.Replay.{room}
use Rattle.listing.proofs.Texts.{text_end, text_fault, text_refused}
use Rattle.listing.proofs.Otherwise.{not_event}
use Rattle.listing.proofs.SoFar.{so_far_start, so_far_turn, so_far_room, so_far_end}
use Rattle.listing.proofs.happenings.put_events.Goals as goal

pub loop-read-init : goal.loop-read-init
loop-read-init c = so_far_start c.requires.at_in_bounds.0 c.requires.shaped

pub put_event-requires : goal.put_event-requires
unfolding room
put_event-requires c = so_far_room c.loop-read.invariant event_line_most (omega arith) c.requires.at_in_bounds.1

-- the file's end, a record that cannot be read, and one that is no event
-- an event: the place moves on, and the text so far has its line
pub loop-read-smaller : goal.loop-read-smaller
loop-read-smaller c =
    let moved = read_moves _ _ _ _ (sym (c.in-Ok.ensures) ∙ ap Ok c.in-Some.is) in
    omega (arith, moved.0, moved.1)

pub loop-read-preserved : goal.loop-read-preserved
loop-read-preserved c =
    so_far_turn c.loop-read.invariant _ _ _
    (sym (c.in-Ok.ensures) ∙ ap Ok c.in-Some.is ∙ ap (λ r. got r c.in-Some.next) c.in-Happening.is)
    c.attempted-outcome.ensures c.put_event.ensures

-- the file's end, a record that cannot be read, and one that is no event
pub returns-in_default : goal.returns-in_default
returns-in_default c = so_far_end c.loop-read.invariant _ (text_end _ _ _ (sym (c.in-Ok.ensures) ∙ ap Ok c.in_default.is))

pub returns-in-Err : goal.returns-in-Err
returns-in-Err c = so_far_end c.loop-read.invariant _ (text_fault _ _ _ _ (sym (c.in-Err.ensures)))

pub returns-in_default-record : goal.returns-in_default-record
returns-in_default-record c =
    so_far_end c.loop-read.invariant _
    (text_refused _ _ _ _ _ _ (sym (c.in-Ok.ensures) ∙ ap Ok c.in-Some.is) (not_event (counted_table 0 0 0) c.in-Some.«record» c.in_default-record.not-Happening))
