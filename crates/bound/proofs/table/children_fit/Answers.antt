-- `bound::table::children_fit` meets its contract. Assumes nothing.
use Rattle.std.proofs.Common.{rules, ◌∙◌, ℕ, arith, if◌then◌else◌, Some, take}
use borrow.Author.Tests.{tests}
use Rattle.bound.specs.declared.Section.{Section}
use Rattle.std.proofs.lemmas.Iterator.{YieldsList-from_slice, YieldsList-from_map}
use Rattle.std.proofs.lemmas.Iterator.Consumers.{sum_by_from_yields_List}
use Rattle.std.proofs.lemmas.Iterator.Adapters.{fits_from_length, at_most_from_yields_List}
use Rattle.bound.specs.Table.{no_section, directly_in, child_length}
use Rattle.bound.proofs.Refusals.{children_are, sum_taken}
use Rattle.bound.proofs.table.children_fit.Goals as goal

pub sum-sum-requires-clause-fits : goal.sum-sum-requires-clause-fits
sum-sum-requires-clause-fits c =
    fits_from_length _ _ 12 _ (at_most_from_yields_List (YieldsList-from_slice (take c.args.s.now.count c.args.s.now.section) (cc)) (search rules)) c.map.ensures.closure
    (omega arith) (λ x r q k. search (rules, tests))

pub returns : goal.returns
unfolding child_length
returns c =
    let h : Section → ℕ = λ x. if directly_in x.parent (Some c.args.i) then x.length else 0 in
    children_are _ _ _
    (sum_by_from_yields_List h (take c.args.s.now.count c.args.s.now.section) c.map.result _ c.sum-sum.ensures.ran
    (YieldsList-from_map _ h (YieldsList-from_slice _ (cc)) c.map.ensures.closure (λ x r q k. search (rules, tests)))
    ∙ sum_taken h no_section c.args.s.now.section c.args.s.now.count (search rules))
