-- `listing::table::read_counts` meets its contract. Assumes nothing.
use mathlib.Core.Path.{ap, ◌∙◌}
use Rattle.std.proofs.lemmas.Result.{err_from_is_err_and}
use Rattle.trace.specs.Reading.{got}
use Rattle.listing.proofs.Otherwise.{table_found}
use Rattle.listing.proofs.Stages.{counts_unread, counts_wrong, counts_refused, counts_taken}
use Rattle.listing.proofs.table.read_counts.Goals as goal

pub returns-in_err-record : goal.returns-in_err-record
returns-in_err-record c =
    let p = err_from_is_err_and c.from_residual.result c.from_residual.ensures.1 in
    rw (p.1, p.2) (counts_unread _ _ (c.in_err-record.ensures))

pub returns-in_default : goal.returns-in_default
returns-in_default c =
    counts_wrong _ _ _ (table_found _ _ _ (c.in_ok-record.ensures)) c.in_default.not-Counts

pub returns-in_err-fresh : goal.returns-in_err-fresh
returns-in_err-fresh c =
    let p = err_from_is_err_and c.from_residual-in_err-fresh.result c.from_residual-in_err-fresh.ensures.1 in
    rw (p.1, p.2) (counts_refused _ _ _ _ _ (table_found _ _ _ (c.in_ok-record.ensures) ∙ ap (λ r. got r c.in_ok-record.next) c.in-Counts.is) _ c.fresh.ensures.answer _ (c.in_err-fresh.was))

pub returns : goal.returns
returns c =
    rw c.no_entry.ensures (counts_taken _ _ _ _ _ (table_found _ _ _ (c.in_ok-record.ensures) ∙ ap (λ r. got r c.in_ok-record.next) c.in-Counts.is) _ c.fresh.ensures.answer (c.in_ok-fresh.was))
