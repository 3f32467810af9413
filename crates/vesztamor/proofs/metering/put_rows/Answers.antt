-- `vesztamor::metering::put_rows` meets its contract. Assumes nothing.
use Rattle.lent_bytes.proofs.Parts.{filled_none, filled_more, filled_done}
use Rattle.vesztamor.specs.Metering.{metered_bytes}
use Rattle.vesztamor.proofs.Rows.{server_row_long, row_stored}
use Rattle.vesztamor.proofs.metering.put_rows.Goals as goal

pub loop-s-init : goal.loop-s-init
loop-s-init c = filled_none _ _ _ _

pub loop-s-preserved : goal.loop-s-preserved
loop-s-preserved c =
    filled_more 17 (server_row_long _) c.loop-s.invariant c.loop-s-test.true _ (row_stored _ _ _ _ _ c.row_of-row.ensures (rw c.from.ensures at c.put_row.ensures))

pub returns : goal.returns
unfolding metered_bytes
returns c = filled_done c.loop-s.invariant c.loop-s-test.false
