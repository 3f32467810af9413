-- `bound_text::fault::is_refused` meets its contract. Assumes nothing.
use Rattle.std.proofs.Common.{◌≡◌, ◌∙◌, ap, eqb}
use Rattle.model.specs.Refusals.{numbered}
use Rattle.model.specs.Verdicts.{verdict}
use Rattle.model.proofs.Refused.{passed_none, refused_some}
use Rattle.bound.specs.Table.{table_refusal}
use Rattle.bound_text.specs.Faults.{table_to}
use Rattle.bound_text.proofs.Refused.{passes, told}
use Rattle.bound_text.proofs.fault.is_refused.Goals as goal
use Rattle.bound_text.proofs.fault.is_refused.Goals.{After-table_refusal}

-- what is told is told of the table of the first sections
said : (c : After-table_refusal) → numbered c.table_refusal.result ≡ verdict (table_refusal (table_to c.args.reading c.args.count))
said c = c.table_refusal.ensures ∙ ap (λ s. verdict (table_refusal s)) c.table_to.ensures

pub returns-in-Ok : goal.returns-in-Ok
returns-in-Ok c = passes c.args.reading c.args.number c.args.count (passed_none _ _ _ (said (goal.at.returns-in-Ok c).After-table_refusal) c.in-Ok.is)

pub returns-in-Err : goal.returns-in-Err
returns-in-Err c =
    ap (λ n. eqb n c.args.number) c.from.ensures
    ∙ told c.args.reading c.args.number c.args.count _ (refused_some _ _ _ (said (goal.at.returns-in-Err c).After-table_refusal) c.in-Err.is)
