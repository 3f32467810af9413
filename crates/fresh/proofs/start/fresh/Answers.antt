-- `fresh::start::fresh` meets its contract. Assumes nothing.
use mathlib.Core.Path.{ap, ◌∙◌}
use mathlib.Core.Bool.{not}
use Rattle.fresh.proofs.Answers.{answer_is, state_made, state_refused}
use Rattle.fresh.proofs.start.fresh.Goals as goal

pub returns-then-is_err-clause-answer : goal.returns-then-is_err-clause-answer
returns-then-is_err-clause-answer c = answer_is _ _ c.table_test-answer.ensures

pub returns-then-is_err-clause-state : goal.returns-then-is_err-clause-state
returns-then-is_err-clause-state c =
    c.unusable_state.ensures ∙ state_refused _ _ c.table_test-answer.ensures (c.is_err.ensures.negation ∙ ap not c.if-is_err.true)

pub returns-clause-answer : goal.returns-clause-answer
returns-clause-answer c = answer_is _ _ c.table_test-answer.ensures

pub returns-clause-state : goal.returns-clause-state
returns-clause-state c =
    c.fresh_state.ensures ∙ state_made _ _ c.table_test-answer.ensures (c.is_err.ensures.negation ∙ ap not c.if-is_err.false)
