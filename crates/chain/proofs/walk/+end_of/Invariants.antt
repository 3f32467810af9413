-- What falls as `end_of` calls itself: the tasks that are left. Assumes nothing.
use Rattle.chain.proofs.walk.+end_of.Given as goal

abbrev pub decreases-end_of : goal.decreases-end_of
decreases-end_of l = l.left
