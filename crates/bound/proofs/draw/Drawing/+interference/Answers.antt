-- The cycle of calls: the interference sum, the ordering value, and what stands between them. Each answer is for what a function leaves of the
-- allowance, from what it calls at a lower measure (`Invariants`). Assumes nothing.
use Rattle.std.proofs.Common.{refl, ap, ◌∙◌, arith, Some}
use Rattle.bound.specs.Interference.{both, larger}
use Rattle.bound.specs.Computed.{from_in, end_in}
use Rattle.bound.proofs.Accepted.{accepted_table}
use Rattle.bound.proofs.Turns.{spend_same, one_of, both_of, both_later, first_out, turns_none, turn_out, sum_goes, order_goes, order_stays, best_greater, best_stays}
use Rattle.bound.proofs.Skips.{best_from, best_to_lem, sum_from, sum_to}
use Rattle.bound.proofs.Steps.{weigh_not, weigh_none, weigh_met, weigh_is, best_exceeds, tried_starts, tried_is, order_made, order_ends, order_skips, turns_all, max_is, own_is, sum_not, sum_is_lem, sum_made, sum_alone, sum_ends}
use Rattle.bound.proofs.draw.Drawing.+interference.Goals as goal
use Rattle.bound.proofs.draw.Drawing.+interference.Goals.{first_greatest-then-best-weighed, first_greatest-else-best-weighed, interference_sum-then-reach-eq0-via-then-reach-eq0, interference_sum-then-reach-eq0-via-else-reach-eq0+then-reach-eq0-2}

-- `weigh`
pub weigh-returns-then-not-is_on-clause-is : goal.weigh-returns-then-not-is_on-clause-is
weigh-returns-then-not-is_on-clause-is t c = ap Some c.nothing.ensures ∙ weigh_not _ _ _ _ _ _ _ _ c.is_on.ensures _ c.if-not-is_on.true

pub weigh-returns-then-allowance-eq0-clause-is : goal.weigh-returns-then-allowance-eq0-clause-is
weigh-returns-then-allowance-eq0-clause-is t c = weigh_none _ _ _ _ _ _ _ _ c.is_on.ensures c.if-not-is_on.false _ (omega arith)

pub weigh-returns-then-meets-clause-is : goal.weigh-returns-then-meets-clause-is
weigh-returns-then-meets-clause-is t c =
    ap Some c.nothing-then-meets.ensures
    ∙ weigh_met _ _ _ _ _ _ _ _ c.is_on.ensures c.if-not-is_on.false _ (c.args.self.now.laid.outer_is _ c.requires.1) _ c.meets.ensures _ (omega arith) c.if-meets.true

pub weigh-returns-in_err-nested-clause-is : goal.weigh-returns-in_err-nested-clause-is
weigh-returns-in_err-nested-clause-is t c =
    c.from_residual.ensures
    ∙ both_later _ _ _ _
    (weigh_is _ _ _ _ _ _ _ _ c.is_on.ensures c.if-not-is_on.false
    _ (c.args.self.now.laid.outer_is _ c.requires.1) _ c.meets.ensures c.if-meets.false _ _ c.put.ensures c.joined-joint.ensures)
    _ _ _ (one_of _ _ (omega arith)) c.in_err-nested.ensures.is

pub weigh-returns-clause-is : goal.weigh-returns-clause-is
weigh-returns-clause-is t c =
    both_of _ _ _ _
    (weigh_is _ _ _ _ _ _ _ _ c.is_on.ensures c.if-not-is_on.false
    _ (c.args.self.now.laid.outer_is _ c.requires.1) _ c.meets.ensures c.if-meets.false _ _ c.put.ensures c.joined-joint.ensures)
    _ _ _ _ _ _ (one_of _ _ (omega arith)) c.in_ok-nested.ensures.is

pub weigh-returns-clause-fair : goal.weigh-returns-clause-fair
weigh-returns-clause-fair t c =
    let fair = c.in_ok-nested.ensures.fair in
    record { most = omega (arith, fair.most, (accepted_table _ c.args.self.now.laid.accepted).length_most _ c.requires.1); giver_there = tt }

-- `first_greatest`
pub first_greatest-loop-i-init : goal.first_greatest-loop-i-init
first_greatest-loop-i-init t c =
    let spanned = c.args.self.now.laid.spanned in
    record {
      below_end = omega (arith, spanned.in_order c.on_span.result);
      end_is = ap (end_in c.args.self.now.spans) c.on_span.ensures.is;
      grown = rw c.nothing-best.ensures (record { most = omega arith; giver_there = tt });
      found = ap Some c.nothing-best.ensures ∙ best_from _ _ spanned _ _ _ _ _ (ap (from_in c.args.self.now.spans) c.on_span.ensures.is);
    }

pub first_greatest-returns-in_err-weighed-clause-is : goal.first_greatest-returns-in_err-weighed-clause-is
first_greatest-returns-in_err-weighed-clause-is t c =
    let most = c.args.self.now.laid.spanned.end_most c.on_span.result in
    c.from_residual.ensures ∙ best_exceeds _ _ _ _ _ _ _ _ _ (omega arith) c.loop-i.invariant.found c.in_err-weighed.ensures.is

pub first_greatest-loop-i-preserved : goal.first_greatest-loop-i-preserved
first_greatest-loop-i-preserved t c =
    let most = c.args.self.now.laid.spanned.end_most c.on_span.result in
    let fair = c.in_ok-weighed.ensures.fair in
    let grown = c.loop-i.invariant.grown in
    let made = c.in_ok-weighed.ensures.is in
    let found = c.loop-i.invariant.found in
    record {
      below_end = omega arith;
      end_is = c.loop-i.invariant.end_is;
      grown = elim c.if-best-weighed.branch [
        | first_greatest-then-best-weighed w ↦ rw w.best-is (record { most = omega arith; giver_there = omega arith })
        | first_greatest-else-best-weighed w ↦ rw w.best-is (record { most = omega arith; giver_there = grown.giver_there })
      ];
      found = elim c.if-best-weighed.branch [
        | first_greatest-then-best-weighed w ↦ ap Some w.best-is ∙ best_greater _ _ _ _ _ _ _ _ _ made found _ _ w.if-best-weighed.true refl refl
        | first_greatest-else-best-weighed w ↦ ap Some w.best-is ∙ best_stays _ _ _ _ _ _ _ _ _ made found _ _ w.if-best-weighed.false refl refl
      ];
    }

pub first_greatest-returns-clause-is : goal.first_greatest-returns-clause-is
first_greatest-returns-clause-is t c =
    c.loop-i.invariant.found
    ∙ spend_same _ _ _ (best_to_lem _ _ c.args.self.now.laid.spanned _ _ _ _ _ c.loop-i.invariant.end_is (omega arith) (omega arith))

-- `tried_next`
pub tried_next-returns-in_err-next-clause-is : goal.tried_next-returns-in_err-next-clause-is
tried_next-returns-in_err-next-clause-is t c =
    c.from_residual.ensures ∙ first_out _ _ _ _ (ap (λ w. w.weighings) (tried_starts _ _ _ _ _ _ _ _ c.requires.5)) c.in_err-next.ensures.is

pub tried_next-returns-in_err-later-clause-is : goal.tried_next-returns-in_err-later-clause-is
tried_next-returns-in_err-later-clause-is t c =
    c.from_residual-in_err-later.ensures
    ∙ both_later _ _ _ _ (tried_is _ _ _ _ _ _ _ _ c.requires.5 _ _ _ _ c.in_ok-next.ensures.is _ _ c.put-fewer.ensures c.held_after-holding.ensures)
    _ _ _ c.in_ok-next.ensures.is c.in_err-later.ensures.is

pub tried_next-returns-clause-is : goal.tried_next-returns-clause-is
tried_next-returns-clause-is t c =
    both_of _ _ _ _ (tried_is _ _ _ _ _ _ _ _ c.requires.5 _ _ _ _ c.in_ok-next.ensures.is _ _ c.put-fewer.ensures c.held_after-holding.ensures)
    _ _ _ _ _ _ c.in_ok-next.ensures.is c.in_ok-later.ensures.is

-- `largest_order`
pub largest_order-returns-then-reach-eq0-clause-is : goal.largest_order-returns-then-reach-eq0-clause-is
largest_order-returns-then-reach-eq0-clause-is t c = ap Some c.nothing-largest.ensures ∙ order_ends _ _ _ _ _ _ _ _ c.if-reach-eq0.true

pub largest_order-loop-task-init : goal.largest_order-loop-task-init
largest_order-loop-task-init t c = record {
  grown = rw c.nothing-largest.ensures (record { most = omega arith; giver_there = tt });
  found = ap Some c.nothing-largest.ensures ∙ turns_none _ _ _;
}

pub largest_order-loop-task-preserved-then-not-remaining-task : goal.largest_order-loop-task-preserved-then-not-remaining-task
largest_order-loop-task-preserved-then-not-remaining-task t c = record {
  grown = c.loop-task.invariant.grown;
  found = order_stays _ _ _ _ _ _ (order_skips _ _ _ _ _ _ _ _ _ c.if-not-remaining-task.true) c.loop-task.invariant.found;
}

pub largest_order-returns-in_err-tried-clause-is : goal.largest_order-returns-in_err-tried-clause-is
largest_order-returns-in_err-tried-clause-is t c =
    c.from_residual.ensures
    ∙ turn_out (λ x. larger) (λ x y z. refl) _ _ _ 6 _ _ _ (omega arith) c.loop-task.invariant.found c.in_err-tried.ensures.is
    ∙ spend_same _ _ _ (order_made _ _ _ _ _ _ _ c.if-reach-eq0.false)

pub largest_order-loop-task-preserved : goal.largest_order-loop-task-preserved
largest_order-loop-task-preserved t c =
    let fair = c.in_ok-tried.ensures.fair in
    let grown = c.loop-task.invariant.grown in
    record {
      grown = record { most = omega (arith, fair.most, c.max.ensures); giver_there = tt };
      found = order_goes _ _ _ _ _ _ _ _ _ c.in_ok-tried.ensures.is _ (c.max.ensures ∙ max_is _ _) c.loop-task.invariant.found;
    }

pub largest_order-returns-clause-is : goal.largest_order-returns-clause-is
largest_order-returns-clause-is t c =
    c.loop-task.invariant.found ∙ spend_same _ _ _ (turns_all _ _ _ (omega arith) (omega arith) ∙ order_made _ _ _ _ _ _ _ c.if-reach-eq0.false)

-- `ordering_value`
pub ordering_value-returns-clause-is : goal.ordering_value-returns-clause-is
ordering_value-returns-clause-is t c = c.largest_order.ensures.is ∙ spend_same _ _ _ (own_is _ _ _ _ _ _ _ c.blockers-found.ensures)

-- `sum_over`
pub sum_over-returns-then-not-is_in-clause-is : goal.sum_over-returns-then-not-is_in-clause-is
sum_over-returns-then-not-is_in-clause-is t c = ap Some c.nothing.ensures ∙ sum_not _ _ _ _ _ _ _ _ c.is_in.ensures _ c.if-not-is_in.true

pub sum_over-with-wider-requires : goal.sum_over-with-wider-requires
sum_over-with-wider-requires t c =
    omega (arith, (accepted_table _ c.args.self.now.laid.accepted).resource_most _ c.requires.0)

pub sum_over-ordering_value-requires : goal.sum_over-ordering_value-requires
sum_over-ordering_value-requires t c =
    let resource = (accepted_table _ c.args.self.now.laid.accepted).resource_most _ c.requires.0 in
    (omega arith, (omega arith, omega arith, omega arith))

pub sum_over-returns-in_err-ordered-clause-is : goal.sum_over-returns-in_err-ordered-clause-is
sum_over-returns-in_err-ordered-clause-is t c =
    c.from_residual.ensures ∙ first_out _ _ _ _ (ap (λ w. w.weighings) (sum_is_lem _ _ _ _ _ _ _ _ c.is_in.ensures c.if-not-is_in.false _ c.with-wider.ensures)) c.in_err-ordered.ensures.is

pub sum_over-returns-in_err-nested-clause-is : goal.sum_over-returns-in_err-nested-clause-is
sum_over-returns-in_err-nested-clause-is t c =
    c.from_residual-in_err-nested.ensures
    ∙ both_later _ _ _ _ (sum_is_lem _ _ _ _ _ _ _ _ c.is_in.ensures c.if-not-is_in.false _ c.with-wider.ensures)
    _ _ _ c.in_ok-ordered.ensures.is c.in_err-nested.ensures.is

pub sum_over-returns-clause-is : goal.sum_over-returns-clause-is
sum_over-returns-clause-is t c =
    both_of _ _ _ _ (sum_is_lem _ _ _ _ _ _ _ _ c.is_in.ensures c.if-not-is_in.false _ c.with-wider.ensures)
    _ _ _ _ _ _ c.in_ok-ordered.ensures.is c.in_ok-nested.ensures.is

-- `interference_sum`
pub interference_sum-returns-then-reach-eq0-clause-is : goal.interference_sum-returns-then-reach-eq0-clause-is
interference_sum-returns-then-reach-eq0-clause-is t c =
    ap Some c.nothing-sum.ensures
    ∙ elim c.then-reach-eq0.branch [
      | interference_sum-then-reach-eq0-via-then-reach-eq0 w ↦ sum_alone _ _ _ _ _ _ _ _ w.if-reach-eq0.true
      | interference_sum-then-reach-eq0-via-else-reach-eq0+then-reach-eq0-2 w ↦ sum_ends _ _ _ _ _ _ _ _ w.if-reach-eq0-2.true
    ]

pub interference_sum-loop-c-init : goal.interference_sum-loop-c-init
interference_sum-loop-c-init t c =
    let spanned = c.args.self.now.laid.spanned in
    record {
      below_end = omega (arith, spanned.in_order c.in_span.result);
      end_is = ap (end_in c.args.self.now.spans) c.in_span.ensures.is;
      grown = rw c.nothing-sum.ensures (record { most = omega arith; giver_there = tt });
      found = ap Some c.nothing-sum.ensures ∙ sum_from _ _ spanned _ _ _ _ _ _ _ (ap (from_in c.args.self.now.spans) c.in_span.ensures.is);
    }

pub interference_sum-returns-in_err-added-clause-is : goal.interference_sum-returns-in_err-added-clause-is
interference_sum-returns-in_err-added-clause-is t c =
    let most = c.args.self.now.laid.spanned.end_most c.in_span.result in
    c.from_residual.ensures
    ∙ turn_out (λ c. both) (λ c x y. refl) _ _ _ c.args.self.now.sections.count _ _ _ (omega arith) c.loop-c.invariant.found c.in_err-added.ensures.is
    ∙ spend_same _ _ _ (sum_made _ _ _ _ _ _ _ c.if-reach-eq0.false c.if-reach-eq0-2.false)

pub interference_sum-loop-c-preserved : goal.interference_sum-loop-c-preserved
interference_sum-loop-c-preserved t c =
    let fair = c.in_ok-added.ensures.fair in
    let grown = c.loop-c.invariant.grown in
    record {
      below_end = omega arith;
      end_is = c.loop-c.invariant.end_is;
      grown = record { most = omega arith; giver_there = tt };
      found = sum_goes _ _ _ _ _ _ _ _ _ c.in_ok-added.ensures.is c.loop-c.invariant.found;
    }

pub interference_sum-returns-clause-is : goal.interference_sum-returns-clause-is
interference_sum-returns-clause-is t c =
    c.loop-c.invariant.found
    ∙ spend_same _ _ _
    (sum_to _ _ c.args.self.now.laid.spanned _ _ _ _ _ _ _ c.loop-c.invariant.end_is (omega arith) (omega arith)
    ∙ sum_made _ _ _ _ _ _ _ c.if-reach-eq0.false c.if-reach-eq0-2.false)
