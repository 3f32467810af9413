-- What the loop keeps. Assumes nothing.
use Rattle.std.proofs.Common.{◌≡◌, ◌≤◌}
use Rattle.std.proofs.Math.Option.{none}
use Rattle.laws.specs.Loops.{fold_to}
use Rattle.bound.specs.Table.{section_refusal}
use Rattle.bound.proofs.table.sections_refusal.Given as goal

abbrev pub invariant-loop-i : goal.invariant-loop-i
invariant-loop-i l = (l.i ≤ l.s.count) × (fold_to l.i (section_refusal l.s) none ≡ none)
