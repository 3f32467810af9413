-- `fresh::start::table_test` meets its contract. Assumes nothing.
use Rattle.std.proofs.Common.{rules}
use mathlib.Core.Path.{sym, ap, ◌∙◌}
use Rattle.laws.proofs.Lists.{taken}
use Rattle.model.specs.Fresh.{no_entry, entry_refusal}
use Rattle.model.specs.Verdicts.{verdict}
use Rattle.model.proofs.Refused.{passed_none, refused_some}
use Rattle.fresh.proofs.Refusals.{counts_told, nothing_told, line_told, line_passes, none_told}
use Rattle.fresh.proofs.start.table_test.Goals as goal

pub returns-then-not-counts_fit : goal.returns-then-not-counts_fit
returns-then-not-counts_fit c =
    sym (ap verdict (counts_told c.args.tb (sym c.counts_fit.ensures ∙ c.if-not-counts_fit.true)))

pub loop-entry-init : goal.loop-entry-init
loop-entry-init c =
    nothing_told c.args.tb

pub returns-in_err-entry_test : goal.returns-in_err-entry_test
returns-in_err-entry_test c =
    let fit = sym c.counts_fit.ensures ∙ c.if-not-counts_fit.false in
    let at = taken c.args.tb.tasks c.loop-entry.entry-index c.args.tb.entry no_entry (search rules) c.loop-entry-test.true in
    search (
      rules,
      line_told
          c.args.tb
          fit
          c.loop-entry.entry-index
          _
          at.0
          (search rules)
          c.loop-entry.invariant
          (ap (entry_refusal c.args.tb.resources) (sym at.1) ∙ refused_some _ _ _ c.entry_test.ensures c.in_err-entry_test.was),
    )

pub loop-entry-preserved : goal.loop-entry-preserved
loop-entry-preserved c =
    let at = taken c.args.tb.tasks c.loop-entry.entry-index c.args.tb.entry no_entry (search rules) c.loop-entry-test.true in
    line_passes
    c.args.tb
    (sym c.counts_fit.ensures ∙ c.if-not-counts_fit.false)
    _
    at.0
    c.loop-entry.invariant
    (ap (entry_refusal c.args.tb.resources) (sym at.1) ∙ passed_none _ _ _ c.entry_test.ensures c.in_ok-entry_test.was)

pub returns : goal.returns
returns c =
    sym (ap verdict (none_told c.args.tb (sym c.counts_fit.ensures ∙ c.if-not-counts_fit.false) (search rules) (search rules)))
