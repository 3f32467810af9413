-- What the loop keeps: the entries so far are made, and all else is as it was. Assumes nothing.
use Rattle.std.proofs.Common.{◌≡◌}
use lib.ListN.{replicate}
use Rattle.laws.proofs.Making.{Making}
use Rattle.model.specs.Fresh.{blank_server, blank_task, blank_resource, fresh_server_at, fresh_task_at}
use Rattle.fresh.proofs.start.fresh_state.Given as goal

abbrev pub invariant-loop-i : goal.invariant-loop-i
invariant-loop-i l = record {
  servers : Making 16 (fresh_server_at l.fn.tb) (replicate 16 blank_server) l.i l.state.server;
  tasks : Making 16 (fresh_task_at l.fn.tb) (replicate 16 blank_task) l.i l.state.task;
  counts : (l.state.processors ≡ l.fn.tb.processors) × (l.state.tasks ≡ l.fn.tb.tasks) × (l.state.resources ≡ l.fn.tb.resources) × (l.state.clock ≡ 0);
  resources : l.state.resource ≡ replicate 16 blank_resource;
}
