-- `meter::rows::fill` meets its contract: a turn stores one row more, and there is room for it since no answer writes more rows than are lent.
-- That what is decided and stored is what rules 9.1 and 9.2 say is shown in proofs/Decided.antt. Assumes nothing.
use mathlib.Core.Path.{sym, ap, ◌∙◌}
use Rattle.std.proofs.lemmas.List.{length-take-le}
use Rattle.laws.proofs.Set.{set_none, set_more}
use Rattle.model.specs.Said.{said}
use Rattle.model.specs.Meter.{row_of}
use Rattle.meter.proofs.Decided.{written_fits, set_taken, answer_is, rows_are, said_is}
use Rattle.meter.proofs.rows.fill.Goals as goal

pub slice_bounds-written-end : goal.slice_bounds-written-end
slice_bounds-written-end c = written_fits _ _ _ _ c.decided-answer.ensures c.rows_written.ensures

pub slice_bounds-written-end-2 : goal.slice_bounds-written-end-2
slice_bounds-written-end-2 c =
    sym (length-take-le _ _ (written_fits _ _ _ _ c.decided-answer.ensures c.rows_written.ensures))

pub loop-s-init : goal.loop-s-init
loop-s-init c = set_none _ _

pub loop-s-preserved : goal.loop-s-preserved
loop-s-preserved c = set_more _ _ _ _ _ c.row_of.ensures c.loop-s.invariant

pub returns-clause-answer : goal.returns-clause-answer
returns-clause-answer c = c.decided-answer.ensures ∙ answer_is _ _

pub returns-clause-rows : goal.returns-clause-rows
returns-clause-rows c =
    set_taken
    (row_of c.args.st)
    _
    _
    _
    _
    (written_fits _ _ _ _ c.decided-answer.ensures c.rows_written.ensures)
    c.loop-s.auto.s-end
    c.loop-s-test.false
    c.loop-s.invariant
    ∙ rows_are _ _ _ _ c.decided-answer.ensures c.rows_written.ensures

pub returns-clause-said : goal.returns-clause-said
returns-clause-said c = ap said c.decided-answer.ensures ∙ said_is _ _
