-- Each loop keeps that the first i of the entries in use are read and the rest of the state stays, and that those in use are sixteen at most. Assumes nothing.
use mathlib.Core.Path.{◌≡◌}
use Prim.Native.Nat.{◌≤◌}
use Rattle.laws.specs.Loops.{set_to}
use Rattle.model.specs.declared.State.{State}
use Rattle.image.specs.Decoded.{entry_in, server_in, task_in, resource_in}
use Rattle.image.proofs.reading.state_in.Given as goal

-- the counts and the clock stay
abbrev Counts : State → State → Type 0
Counts a b = (a.processors ≡ b.processors) × (a.tasks ≡ b.tasks) × (a.resources ≡ b.resources) × (a.clock ≡ b.clock)

abbrev pub invariant-loop-i : goal.invariant-loop-i
invariant-loop-i l = record {
  few : l.tasks_used ≤ 16;
  counts : Counts l.state l.initial.state;
  servers : l.state.server ≡ set_to l.i (entry_in server_in 29 l.bytes 10) l.initial.state.server;
  tasks : l.state.task ≡ set_to l.i (entry_in task_in 46 l.bytes 474) l.initial.state.task;
  resources : l.state.resource ≡ l.initial.state.resource;
}

abbrev pub invariant-loop-i-2 : goal.invariant-loop-i-2
invariant-loop-i-2 l = record {
  few : l.resources_used ≤ 16;
  counts : Counts l.state l.initial.state;
  servers : l.state.server ≡ l.initial.state.server;
  tasks : l.state.task ≡ l.initial.state.task;
  resources : l.state.resource ≡ set_to l.i (entry_in resource_in 37 l.bytes 1210) l.initial.state.resource;
}
