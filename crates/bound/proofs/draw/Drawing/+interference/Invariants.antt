-- What falls from call to call in the cycle of the two calculations: the tasks outside B, then the depth or the tasks left to order. What its loops
-- keep: the value grows by at most a million for each weighing, and is that of the turns made so far. Assumes nothing.
use Rattle.std.proofs.Common.{◌≡◌, ◌+◌, ◌-◌, ◌*◌, ◌≤◌, Some}
use Rattle.bound.specs.Interference.{both, larger, gathered, weighing, weighed_on, first_greatest, tried_next, order, ordering, sum_over, level}
use Rattle.bound.specs.Computed.{resources_of, on_span, in_span, end_in, spend, Grown}
use Rattle.bound.proofs.draw.Drawing.+interference.Given as goal

abbrev pub decreases-weigh : goal.decreases-weigh
decreases-weigh l = l.reach.left * 10000 + 4000

abbrev pub decreases-first_greatest : goal.decreases-first_greatest
decreases-first_greatest l = l.reach.left * 10000 + 5000

abbrev pub decreases-tried_next : goal.decreases-tried_next
decreases-tried_next l = l.reach.left * 10000 + 9000 + l.reach.depth * 20 + 10

abbrev pub decreases-largest_order : goal.decreases-largest_order
decreases-largest_order l = l.reach.left * 10000 + 9000 + l.reach.depth * 20 + 19

abbrev pub decreases-ordering_value : goal.decreases-ordering_value
decreases-ordering_value l = l.reach.left * 10000 + 5

abbrev pub decreases-sum_over : goal.decreases-sum_over
decreases-sum_over l = l.reach.left * 10000 + l.reach.depth * 20 + 10

abbrev pub decreases-interference_sum : goal.decreases-interference_sum
decreases-interference_sum l = l.reach.left * 10000 + l.reach.depth * 20 + 19

abbrev pub invariant-first_greatest-loop-i : goal.invariant-first_greatest-loop-i
invariant-first_greatest-loop-i l = record {
  below_end : l.i ≤ l.i-end;
  end_is : l.i-end ≡ end_in l.self.spans (on_span l.task l.resource);
  grown : Grown l.self.sections.count l.allowance l.best;
  found : let s = l.self.sections in let weigh = weighing (level l.reach.left 12 s) s l.reach.b (resources_of l.held.bits) in
      Some l.best ≡ spend (gathered first_greatest (weighed_on weigh s l.resource l.task) l.i) l.allowance;
}

abbrev pub invariant-largest_order-loop-task : goal.invariant-largest_order-loop-task
invariant-largest_order-loop-task l = record {
  grown : Grown l.self.sections.count l.allowance l.largest;
  found : let s = l.self.sections in let weigh = weighing (level l.reach.left 12 s) s in
      let tried = tried_next weigh (order (l.reach.depth - 1) weigh s l.resource) s l.resource l.reach.b l.remaining (resources_of l.held.bits) in
      Some l.largest ≡ spend (gathered (λ x. larger) tried l.task) l.allowance;
}

abbrev pub invariant-interference_sum-loop-c : goal.invariant-interference_sum-loop-c
invariant-interference_sum-loop-c l = record {
  below_end : l.c ≤ l.c-end;
  end_is : l.c-end ≡ end_in l.self.spans (in_span l.parent);
  grown : Grown l.self.sections.count l.allowance l.sum;
  found : let s = l.self.sections in let ordered = ordering l.reach.left (level (l.reach.left - 1) 12 s) s l.reach.b in
      let added = sum_over ordered (level l.reach.left (l.reach.depth - 1) s l.reach.b l.task) s l.task l.parent (resources_of l.r.bits) in
      Some l.sum ≡ spend (gathered (λ c. both) added l.c) l.allowance;
}
