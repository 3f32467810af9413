-- `vesztamor::metering::vesztamor_meter` meets its contract. Assumes nothing.
use Rattle.vesztamor.proofs.Held.{held}
use Rattle.vesztamor.proofs.Rows.{meter_some, rows_fit}
use Rattle.vesztamor.proofs.Ways.{both}
use Rattle.vesztamor.proofs.metering.vesztamor_meter.Goals as goal

pub put_rows-requires : goal.put_rows-requires
put_rows-requires c = rows_fit _ _ _ c.decided-metered.ensures _ c.rows_written.ensures

pub returns-in-Ok : goal.returns-in-Ok
returns-in-Ok c =
    both _ _ _ _ _
    (meter_some _ _ c.if-rows-ne0.false _ (held _ _ c.in-Ok.ensures) _ c.decided-metered.ensures _ c.rows_written.ensures)
    c.step_answer.ensures
    c.put_rows.ensures
