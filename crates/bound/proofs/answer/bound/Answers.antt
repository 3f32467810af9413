-- `bound::answer::bound` meets its contract. Assumes nothing.
use Rattle.std.proofs.Common.{◌≡◌, rules, sym, ◌∙◌, arith}
use Rattle.std.proofs.Math.Option.{none}
use Rattle.model.proofs.Refused.{passed_none, refused_some}
use Rattle.bound.specs.Table.{refusal}
use Rattle.bound.specs.Interference.{bound}
use Rattle.bound.specs.Computed.{spend}
use Rattle.bound.proofs.Answers.{table_free, table_accepted, task_there}
use Rattle.bound.proofs.Answered.{told_refused, spent_is, answer_of_lem, answer_exceeded, found_some, found_none}
use Rattle.bound.proofs.answer.bound.Goals as goal
use Rattle.bound.proofs.answer.bound.Goals.{In_ok-refusal, After-interference_sum}

-- past the tests nothing is refused
free : (c : In_ok-refusal) → refusal c.args.s c.args.task.0 c.args.allowance ≡ none
free c = passed_none _ _ _ c.refusal.ensures c.in_ok-refusal.was

pub returns-in_err-refusal : goal.returns-in_err-refusal
returns-in_err-refusal c =
    let told = told_refused c.args.s c.args.task.0 c.args.allowance _ (refused_some _ _ _ c.refusal.ensures c.in_err-refusal.was) in
    search (rules, told)

pub put-requires : goal.put-requires
put-requires c =
    let past = free (goal.at.put-requires c).In_ok-refusal in
    omega (arith, task_there _ _ _ past, (table_accepted _ _ _ past).tasks_most)

pub overflow_sub-reach : goal.overflow_sub-reach
overflow_sub-reach c = (table_accepted _ _ _ (free (goal.at.overflow_sub-reach c).In_ok-refusal)).tasks_least

pub of-requires : goal.of-requires
of-requires c = table_free _ _ _ (free (goal.at.of-requires c).In_ok-refusal)

pub interference_sum-requires : goal.interference_sum-requires
interference_sum-requires c =
    (omega (arith, (table_accepted _ _ _ (free (goal.at.interference_sum-requires c).In_ok-refusal)).tasks_most), omega arith, tt)

-- the sum is the bound's, under the allowance
sum_is : (c : After-interference_sum) → c.interference_sum.result ≡ spend (bound c.args.s c.args.task.0) c.args.allowance
sum_is c = c.interference_sum.ensures.is ∙ spent_is c.args.s c.args.task.0 c.args.allowance _ _ c.of.ensures c.put.ensures

pub returns-in_err-found : goal.returns-in_err-found
returns-in_err-found c =
    let at = goal.at.returns-in_err-found c in
    let none = found_none _ _ _ c.in_err-found.ensures.value in
    let told = answer_exceeded c.args.s c.args.task.0 c.args.allowance (free at.In_ok-refusal) (sym none.0 ∙ sum_is at.After-interference_sum) in
    let spent = none.1 in
    search (rules, told, spent)

pub returns : goal.returns
returns c =
    let at = goal.at.returns c in
    answer_of_lem _ _ _ (free at.In_ok-refusal) _ _ _ (sym (found_some _ _ _ c.in_ok-found.ensures.value) ∙ sum_is at.After-interference_sum)
