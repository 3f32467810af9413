-- `listing::whole::put_listing` meets its contract: where the listing stops, the line of the stop stands after the others. Assumes nothing.
use native.Mathlib.Omega.{arith}
use Rattle.listing.proofs.Ending.{listed_room, listed_whole}
use Rattle.listing.proofs.whole.put_listing.Goals as goal

pub put_stop-requires : goal.put_stop-requires
put_stop-requires c = listed_room (c.in-Err.ensures) _ (omega arith) c.requires

pub returns-in-Err : goal.returns-in-Err
returns-in-Err c = listed_whole (c.in-Err.ensures) (omega arith) c.put_stop.ensures
