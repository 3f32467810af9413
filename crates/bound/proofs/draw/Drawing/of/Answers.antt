-- `bound::draw::Drawing::of` meets its contract. Assumes nothing.
use Rattle.bound.proofs.Accepted.{accepted_table}
use Rattle.bound.proofs.draw.Drawing.of.Goals as goal

pub invariant_of-result : goal.invariant_of-result
invariant_of-result c = record {
  laid = record {
    accepted = c.requires;
    few = (accepted_table _ c.requires).count_most;
    outer_is = c.outers.ensures;
    spanned = c.spans.ensures;
  };
}
