-- What each of the loops keeps: the entries so far are written after one another, and the bytes are as many as a state takes. Assumes nothing.
use mathlib.Core.Path.{◌≡◌}
use mathlib.Core.List.{List}
use Prim.Native.Nat.{ℕ, ◌≤◌}
use lib.ListN.{length}
use Rattle.model.specs.State.{no_server, no_task, no_resource}
use Rattle.image.specs.Encoded.{entry_bytes, server_bytes, task_bytes, resource_bytes}
use Rattle.lent_bytes.proofs.Parts.{Filled}
use Rattle.image.proofs.writing.write.Given as goal

-- a loop over the first n entries
abbrev pub Filling : ℕ → (ℕ → List ℕ) → List ℕ → ℕ → List ℕ → ℕ → Type 0
Filling n part l at m i = (n ≤ 16) × (length l ≡ 1802) × Filled n part l at m i

abbrev pub invariant-loop-i : goal.invariant-loop-i
invariant-loop-i l = Filling l.tasks_used (entry_bytes server_bytes no_server l.fn.st.server) l.initial.bytes 10 l.bytes l.i

abbrev pub invariant-loop-i-2 : goal.invariant-loop-i-2
invariant-loop-i-2 l = Filling l.tasks_used (entry_bytes task_bytes no_task l.fn.st.task) l.initial.bytes 474 l.bytes l.i

abbrev pub invariant-loop-i-3 : goal.invariant-loop-i-3
invariant-loop-i-3 l = Filling l.resources_used (entry_bytes resource_bytes no_resource l.fn.st.resource) l.initial.bytes 1210 l.bytes l.i
