-- Why a task does not act. Assumes nothing.
use Rattle.theory.proofs.Stalled as S
use Rattle.promises.specs.Stalled.{OneOfFour, Which, NoOther, NamesAwaited, GroupsOwn}

pub one_of_four : OneOfFour
one_of_four = S.one_of_four

pub which : Which
which = S.which

pub no_other : NoOther
no_other = S.tells_admitted

pub names_awaited : NamesAwaited
names_awaited = S.names_awaited

pub groups_own : GroupsOwn
groups_own = S.others_leave
