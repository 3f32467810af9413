-- `listing::table::read_entry` meets its contract. Assumes nothing.
use mathlib.Core.Path.{refl, ap, ◌∙◌}
use Rattle.std.proofs.lemmas.Result.{err_from_is_err_and}
use Rattle.trace.specs.Reading.{got}
use Rattle.listing.proofs.Otherwise.{table_found}
use Rattle.listing.proofs.Stages.{begun_unread, begun_wrong, begun_refused, begun_more}
use Rattle.listing.proofs.table.read_entry.Goals as goal

pub returns-in_err-record : goal.returns-in_err-record
returns-in_err-record c =
    let p = err_from_is_err_and c.from_residual.result c.from_residual.ensures.1 in
    rw (p.1, p.2) (begun_unread c.requires.so_far c.requires.below _ (c.in_err-record.ensures))

pub returns-in_default : goal.returns-in_default
returns-in_default c =
    begun_wrong c.requires.so_far c.requires.below _ _ (table_found _ _ _ (c.in_ok-record.ensures)) c.in_default.not-Reservation

pub returns-in_err-fresh : goal.returns-in_err-fresh
returns-in_err-fresh c =
    let p = err_from_is_err_and c.from_residual-in_err-fresh.result c.from_residual-in_err-fresh.ensures.1 in
    rw (p.1, p.2) (begun_refused c.requires.so_far c.requires.below _ _ (table_found _ _ _ (c.in_ok-record.ensures) ∙ ap (λ r. got r c.in_ok-record.next) c.in-Reservation.is) _ c.fresh.ensures.answer _ (c.in_err-fresh.was))

pub returns : goal.returns
returns c =
    (begun_more c.requires.so_far c.requires.below _ _ (table_found _ _ _ (c.in_ok-record.ensures) ∙ ap (λ r. got r c.in_ok-record.next) c.in-Reservation.is) _ c.fresh.ensures.answer (c.in_ok-fresh.was), refl)
