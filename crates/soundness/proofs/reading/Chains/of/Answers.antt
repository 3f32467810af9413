-- `soundness::reading::Chains::of` meets its contract: the arrays are the state's. Assumes nothing.
use mathlib.Core.Path.{◌∙◌}
use Rattle.chain.proofs.Arrays.{ends_are, runs_for_read}
use Rattle.soundness.proofs.reading.Chains.of.Goals as goal

pub invariant_of-result-clause-ends_read : goal.invariant_of-result-clause-ends_read
invariant_of-result-clause-ends_read c =
    c.ends_by-ends.ensures ∙ ends_are _ _ _ c.args.waits.reading.owners_read c.args.waits.wants_read

pub invariant_of-result-clause-runs_read : goal.invariant_of-result-clause-runs_read
invariant_of-result-clause-runs_read c =
    let ends = c.ends_by-ends.ensures ∙ ends_are _ _ _ c.args.waits.reading.owners_read c.args.waits.wants_read in
    runs_for_read _ _ _ _ ends c.running_for.ensures c.numbers-runs_by.ensures
