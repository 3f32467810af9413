-- `bound_text::read::number` meets its contract. Assumes nothing.
use Rattle.std.proofs.Common.{sym, ap, ◌∙◌, arith}
use mathlib.Core.Bool.{not}
use Rattle.laws.proofs.Fold.{fold_none, fold_more}
use Rattle.laws.proofs.Cases.{if_yes, if_no}
use borrow.Author.Tests.{eq-eqb, ne_eqb}
use Rattle.bound_text.specs.Readings.{byte_at}
use Rattle.bound_text.proofs.Texts.{number_is}
use Rattle.bound_text.proofs.read.number.Goals as goal
use Rattle.bound_text.proofs.read.number.Goals.{else-line-via-then-line+else-line-eq1, else-line-via-else-line}

pub loop-byte-init : goal.loop-byte-init
loop-byte-init c = c.fresh-line.ensures ∙ fold_none _ _

pub loop-byte-preserved : goal.loop-byte-preserved
unfolding byte_at
loop-byte-preserved c = fold_more _ _ _ _ _ c.loop-byte.invariant c.with_byte-line.ensures

pub returns-then-line-eq1 : goal.returns-then-line-eq1
returns-then-line-eq1 c =
    sym (if_no _ _ _ (ap not c.if-line.true) ∙ if_no _ _ _ (ap not (eq-eqb _ _ c.if-line-eq1.true)))
    ∙ number_is _ _ _ (omega arith) (omega arith) c.loop-byte.invariant

pub returns-else-line : goal.returns-else-line
returns-else-line c =
    let whole = number_is _ _ _ (omega arith) (omega arith) c.loop-byte.invariant in
    elim c.else-line.branch [
      | else-line-via-then-line+else-line-eq1 w ↦ sym (if_no _ _ _ (ap not w.if-line.true) ∙ if_yes _ _ _ (ap not (ne_eqb _ _ w.if-line-eq1.false))) ∙ whole
      | else-line-via-else-line w ↦ sym (if_yes _ _ _ (ap not w.if-line.false)) ∙ whole
    ]
