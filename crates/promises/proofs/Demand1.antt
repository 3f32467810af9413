-- Demand 1. Assumes nothing.
use Rattle.theory.proofs.Refusals as R
use Rattle.theory.proofs.Outcomes as P
use Rattle.theory.proofs.InUse as U
use Rattle.promises.specs.Demand1.{RefusedSame, RefusedListed, TestsAscend, PastKept, PastUnread}

pub refused_same : RefusedSame
refused_same = R.refused_same

pub refused_listed : RefusedListed
refused_listed = R.refused_listed

pub tests_ascend : TestsAscend
tests_ascend st e = (R.listed_are st e, R.listed_rise e)

pub past_kept : PastKept
past_kept st e i = P.past_kept st i e

pub past_unread : PastUnread
past_unread = U.past_unread
