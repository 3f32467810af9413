-- `bound_text::read::read` meets its contract. Assumes nothing.
use Rattle.std.proofs.Common.{◌∙◌, arith}
use Rattle.laws.proofs.Fold.{fold_more}
use Rattle.bound_text.specs.Readings.{taken_at}
use Rattle.bound_text.proofs.Texts.{begun_is, read_is}
use Rattle.bound_text.proofs.read.read.Goals as goal

pub loop-byte-init : goal.loop-byte-init
loop-byte-init c = begun_is _ _ _ c.nothing.ensures c.fresh.ensures

pub loop-byte-preserved : goal.loop-byte-preserved
unfolding taken_at
loop-byte-preserved c = fold_more _ _ _ _ _ c.loop-byte.invariant c.taken-state.ensures

pub returns : goal.returns
returns c = c.ended.ensures ∙ read_is _ _ _ (omega arith) (omega arith) c.loop-byte.invariant
