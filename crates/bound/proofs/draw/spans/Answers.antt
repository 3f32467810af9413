-- `bound::draw::spans` meets its contract. Assumes nothing.
use Rattle.std.proofs.Common.{arith}
use Rattle.bound.proofs.Accepted.{accepted_table}
use Rattle.bound.proofs.Spans.{parent_there, spans_none, spans_turn, spans_done}
use Rattle.bound.proofs.draw.spans.Goals as goal

pub loop-i-init : goal.loop-i-init
loop-i-init c = (omega arith, spans_none _)

pub bounds-s-i : goal.bounds-s-i
bounds-s-i c = omega (arith, (accepted_table _ c.requires).count_most)

pub on_span-on-requires : goal.on_span-on-requires
on_span-on-requires c =
    let good = accepted_table _ c.requires in
    (omega (arith, good.tasks_most, good.task_there c.loop-i.i c.loop-i-test.true), omega (arith, good.resource_most c.loop-i.i c.loop-i-test.true))

pub widened-requires : goal.widened-requires
widened-requires c = omega (arith, (accepted_table _ c.requires).count_most)

pub in_span-inside-requires : goal.in_span-inside-requires
in_span-inside-requires c = parent_there _ (accepted_table _ c.requires) c.loop-i.i c.loop-i-test.true

pub widened-requires-in-loop-i : goal.widened-requires-in-loop-i
widened-requires-in-loop-i c = omega (arith, (accepted_table _ c.requires).count_most)

pub loop-i-preserved : goal.loop-i-preserved
loop-i-preserved c = (
  omega arith,
  spans_turn _ (accepted_table _ c.requires) c.loop-i.drawn c.loop-i.i c.loop-i-test.true c.loop-i.invariant.1 _ _ _ _
      c.on_span-on.ensures.is c.widened.ensures c.in_span-inside.ensures.is c.widened-in-loop-i.ensures,
)

pub returns : goal.returns
returns c = spans_done _ _ _ (omega arith) (omega arith) c.loop-i.invariant.1
