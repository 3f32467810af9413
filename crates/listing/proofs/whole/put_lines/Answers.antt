-- `listing::whole::put_lines` meets its contract: a file that is too long, a table at which the listing stops, the events, and the last lines after them.
-- Assumes nothing.
use mathlib.Core.Path.{◌∙◌}
use native.Mathlib.Omega.{arith}
use Rattle.listing.proofs.Answers.{listing_long, listing_read}
use Rattle.listing.proofs.Ending.{listed_none, listed_as, listed_room, listed_whole}
use Rattle.listing.proofs.whole.put_lines.Goals as goal

pub returns-then-file-gt-FILE_LIMIT : goal.returns-then-file-gt-FILE_LIMIT
returns-then-file-gt-FILE_LIMIT c = listed_none _ _ (listing_long _ c.if-file-gt-FILE_LIMIT.true)

pub returns-in-Err : goal.returns-in-Err
returns-in-Err c = listed_none _ _ ((c.in-Err.ensures) ∙ listing_read _ c.if-file-gt-FILE_LIMIT.false)

pub put_end-requires : goal.put_end-requires
put_end-requires c = listed_room (c.in-Ok-put_events.ensures) _ (omega arith) c.requires

pub returns-in-Ok-put_events : goal.returns-in-Ok-put_events
returns-in-Ok-put_events c =
    listed_whole (listed_as (c.in-Ok-put_events.ensures) ((c.in-Ok.ensures).same ∙ listing_read _ c.if-file-gt-FILE_LIMIT.false)) (omega arith) c.put_end.ensures

pub returns-in-Err-put_events : goal.returns-in-Err-put_events
returns-in-Err-put_events c = listed_as (c.in-Err-put_events.ensures) ((c.in-Ok.ensures).same ∙ listing_read _ c.if-file-gt-FILE_LIMIT.false)
