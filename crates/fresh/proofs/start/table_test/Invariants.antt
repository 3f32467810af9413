-- What the loop keeps: no line so far is refused. Assumes nothing.
use Rattle.std.proofs.Common.{◌≡◌}
use mathlib.Core.Option.{none}
use Rattle.fresh.proofs.Refusals.{refusal_to}
use Rattle.fresh.proofs.start.table_test.Given as goal

abbrev pub invariant-loop-entry : goal.invariant-loop-entry
invariant-loop-entry l = refusal_to l.fn.tb l.entry-index ≡ none
