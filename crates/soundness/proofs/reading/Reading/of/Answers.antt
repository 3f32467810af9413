-- `soundness::reading::Reading::of` meets its contract: the arrays are the state's. Assumes nothing.
use Rattle.chain.proofs.Arrays.{owners_read}
use Rattle.soundness.proofs.reading.Reading.of.Goals as goal

pub invariant_of-result-clause-owners_read : goal.invariant_of-result-clause-owners_read
invariant_of-result-clause-owners_read c = owners_read _ _ _ c.owners.ensures c.numbers-owners.ensures
