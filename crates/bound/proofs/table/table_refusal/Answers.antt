-- `bound::table::table_refusal` meets its contract. Assumes nothing.
use Rattle.std.proofs.Common.{rules, sym, ap, ◌∙◌}
use Rattle.model.specs.Verdicts.{verdict}
use Rattle.model.proofs.Refused.{told_if, passed_none, refused_some}
use Rattle.bound.proofs.Refusals.{counts_told, sections_told, children_told}
use Rattle.bound.proofs.table.table_refusal.Goals as goal

pub returns-then-not-counts_fit : goal.returns-then-not-counts_fit
returns-then-not-counts_fit c = sym (ap verdict (counts_told c.args.s (sym c.counts_fit.ensures ∙ c.if-not-counts_fit.true)))

pub returns-in_err-sections_refusal : goal.returns-in_err-sections_refusal
returns-in_err-sections_refusal c =
    let told =
    sections_told c.args.s (sym c.counts_fit.ensures ∙ c.if-not-counts_fit.false) _ (refused_some _ _ _ c.sections_refusal.ensures c.in_err-sections_refusal.was) in
    search (rules, told)

pub returns : goal.returns
returns c =
    told_if _ _ _ c.refused_if.ensures
    ∙ children_told c.args.s (sym c.counts_fit.ensures ∙ c.if-not-counts_fit.false) _
    (passed_none _ _ _ c.sections_refusal.ensures c.in_ok-sections_refusal.was) c.all_children_fit.ensures
