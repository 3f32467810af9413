-- `listing::table::read_table` meets its contract. Assumes nothing.
use native.Mathlib.Omega.{arith}
use Rattle.listing.proofs.Stages.{begun_done}
use Rattle.listing.proofs.table.read_table.Goals as goal

pub returns : goal.returns
returns c = begun_done c.loop-k.invariant.begun (omega (arith, c.loop-k-test.false, c.loop-k.invariant.same_tasks)) _ c.fresh.ensures.state
