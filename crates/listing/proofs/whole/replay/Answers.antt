-- `listing::whole::replay` meets its contract: a buffer that is too short, and any other. Assumes nothing.
use mathlib.Core.Path.{refl, sym, ◌∙◌}
use Prim.Native.Nat.{◌≤◌}
use native.Mathlib.Omega.{arith}
use lib.ListN.{length}
use Rattle.listing.specs.Replay.{room}
use borrow.Author.Tests.{leb-true}
use Rattle.listing.proofs.Answers.{answered_short, answered}
use Rattle.listing.proofs.whole.replay.Goals as goal

-- a buffer that is too short
pub returns-then-not-has_room : goal.returns-then-not-has_room
returns-then-not-has_room c = answered_short _ _ (sym c.has_room.ensures ∙ c.if-not-has_room.true)

-- any other
pub put_listing-requires : goal.put_listing-requires
put_listing-requires c =
    let room_enough : room (length c.args.file.now) ≤ length c.args.out.now = leb-true _ _ (sym c.has_room.ensures ∙ c.if-not-has_room.false) in
    omega arith

pub returns : goal.returns
returns c =
    let same = sym c.put_listing.ensures.same in
    let a = answered (c.args.file.now) (c.args.out.now) _ (sym c.has_room.ensures ∙ c.if-not-has_room.false) refl c.put_listing.ensures.wrote in
    record { value = a.value; text = grind arith; says = a.says }
