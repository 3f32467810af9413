-- `bound::table::refusal` meets its contract. Assumes nothing.
use Rattle.std.proofs.Common.{rules, sym, ap}
use Rattle.model.specs.Verdicts.{verdict}
use Rattle.model.proofs.Refused.{passed_none, refused_some}
use Rattle.bound.proofs.Refusals.{table_told, task_told, allowance_told, all_passed}
use Rattle.bound.proofs.table.refusal.Goals as goal

pub returns-in_err-table_refusal : goal.returns-in_err-table_refusal
returns-in_err-table_refusal c =
    let told = table_told c.args.s c.args.task.0 c.args.allowance _ (refused_some _ _ _ c.table_refusal.ensures c.in_err-table_refusal.was) in
    search (rules, told)

pub returns-then-s-task : goal.returns-then-s-task
returns-then-s-task c =
    sym (ap verdict (task_told c.args.s c.args.task.0 c.args.allowance (passed_none _ _ _ c.table_refusal.ensures c.in_ok-table_refusal.was) c.if-s-task.true))

pub returns-then-allowance-eq0 : goal.returns-then-allowance-eq0
returns-then-allowance-eq0 c =
    sym (ap verdict (allowance_told c.args.s c.args.task.0 c.args.allowance
    (passed_none _ _ _ c.table_refusal.ensures c.in_ok-table_refusal.was) c.if-s-task.false c.then-allowance-eq0.either))

pub returns : goal.returns
returns c =
    sym (ap verdict (all_passed c.args.s c.args.task.0 c.args.allowance
    (passed_none _ _ _ c.table_refusal.ensures c.in_ok-table_refusal.was) c.if-s-task.false c.if-allowance-eq0.false c.if-allowance-gt-MILLION.false))
