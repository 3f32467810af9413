-- `step::step::taken` meets its contract. Assumes nothing.
use Rattle.step.proofs.Steps.{change_ends, answer_within, taken_is}
use Rattle.step.proofs.step.taken.Goals as goal

pub settled-after-requires : goal.settled-after-requires
settled-after-requires c =
    change_ends _ _ _ c.changed-change.ensures c.requires

pub answered-requires : goal.answered-requires
answered-requires c =
    answer_within _ _ _ c.changed-change.ensures c.requires _ c.settled-after.ensures

pub returns : goal.returns
returns c =
    taken_is _ _ _ c.changed-change.ensures c.requires _ c.settled-after.ensures _ c.answered.ensures
