-- What the loop keeps. Assumes nothing.
use Rattle.std.proofs.Common.{◌≡◌, ◌≤◌, ◌-◌}
use Rattle.bound_text.specs.Faults.{line_from, faulty_line}
use Rattle.bound_text.proofs.fault.faulty_line.Given as goal

abbrev pub invariant-loop-i : goal.invariant-loop-i
invariant-loop-i l = record {
  begun : l.i ≤ 12;
  rest : line_from l.fn.reading l.number (12 - l.i) l.i ≡ faulty_line l.fn.reading l.number;
}
