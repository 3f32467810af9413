-- `bound::draw::outers` meets its contract. Assumes nothing.
use Rattle.std.proofs.Common.{◌∙◌, ◌<◌, ◌≢◌, length, arith, get_or-set_same, get_or-set_other, below_more}
use Rattle.std.proofs.Math.ListN.{length-set}
use Rattle.bound.proofs.Accepted.{accepted_table}
use Rattle.bound.proofs.draw.outers.Goals as goal

pub bounds-drawn-i : goal.bounds-drawn-i
bounds-drawn-i c = omega (arith, (accepted_table _ c.requires).count_most)

pub loop-i-preserved : goal.loop-i-preserved
loop-i-preserved c =
    let inside : c.loop-i.i < length c.loop-i.drawn = omega (arith, (accepted_table _ c.requires).count_most) in (
      omega arith,
      length-set c.loop-i.drawn _ _ ∙ c.loop-i.invariant.1,
      below_more _ _
          (λ j h. let other : j ≢ c.loop-i.i = omega arith in rw get_or-set_other (c.loop-i.invariant.2 j h))
          (rw get_or-set_same c.outer_of.ensures),
    )
