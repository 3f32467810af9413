-- `bound_text::fault::faulty_line` meets its contract. Assumes nothing.
use Rattle.std.proofs.Common.{◌∙◌, arith}
use Rattle.bound_text.proofs.Refused.{first_told, search_begins, line_told, search_goes, search_ends}
use Rattle.bound_text.proofs.fault.faulty_line.Goals as goal

pub returns-then-is_refused : goal.returns-then-is_refused
returns-then-is_refused c = first_told _ _ _ c.is_refused.ensures c.if-is_refused.true

pub loop-i-init : goal.loop-i-init
loop-i-init c = record { begun = omega arith; rest = search_begins _ _ _ c.is_refused.ensures c.if-is_refused.false }

pub returns-then-is_refused-2 : goal.returns-then-is_refused-2
returns-then-is_refused-2 c =
    c.line_read.ensures ∙ line_told _ _ _ _ c.is_refused-in-loop-i.ensures (omega arith) c.if-is_refused-2.true ∙ c.loop-i.invariant.rest

pub loop-i-preserved : goal.loop-i-preserved
loop-i-preserved c = record {
  begun = omega arith;
  rest = search_goes _ _ _ _ c.is_refused-in-loop-i.ensures (omega arith) c.if-is_refused-2.false ∙ c.loop-i.invariant.rest;
}

pub returns : goal.returns
returns c = search_ends _ _ _ (omega arith) (omega arith) ∙ c.loop-i.invariant.rest
