-- `bound::table::sections_refusal` meets its contract. Assumes nothing.
use Rattle.std.proofs.Common.{rules, sym, arith}
use Rattle.laws.proofs.Fold.{fold_none}
use Rattle.model.proofs.Refused.{passed_none, refused_some}
use Rattle.bound.proofs.Refusals.{section_passes, section_told}
use Rattle.bound.proofs.table.sections_refusal.Goals as goal

pub loop-i-init : goal.loop-i-init
loop-i-init c = (omega arith, sym (fold_none _ _))

pub returns-in_err-section_refusal : goal.returns-in_err-section_refusal
returns-in_err-section_refusal c =
    let told =
    section_told _ _ c.loop-i.invariant.1 _ _ c.loop-i-test.true (refused_some _ _ _ c.section_refusal.ensures c.in_err-section_refusal.was) in
    search (rules, told)

pub loop-i-preserved : goal.loop-i-preserved
loop-i-preserved c = (omega arith, section_passes _ _ c.loop-i.invariant.1 (passed_none _ _ _ c.section_refusal.ensures c.in_ok-section_refusal.was))
