-- `settle::query::doing` meets its contract. Assumes nothing.
use mathlib.Core.Path.{sym, ◌∙◌}
use Rattle.settle.proofs.Answers.{and_said, doing_past, doing_off, end_below, doing_executes, doing_spins}
use Rattle.settle.proofs.query.doing.Goals as goal

pub returns-then-not-in_use : goal.returns-then-not-in_use
returns-then-not-in_use c =
    and_said _ _ (doing_past _ _ (sym c.in_use.ensures ∙ c.if-not-in_use.true))

pub returns-then-not-is_running : goal.returns-then-not-is_running
returns-then-not-is_running c =
    and_said _ _ (doing_off _ _ (sym c.is_running.ensures ∙ c.if-not-is_running.true))

pub bounds-st-end : goal.bounds-st-end
bounds-st-end c =
    end_below _ _ (sym c.in_use.ensures ∙ c.if-not-in_use.false) _ c.chain_end-end.ensures

pub returns-then-executor-s : goal.returns-then-executor-s
returns-then-executor-s c =
    and_said _ _
    (doing_executes _ _ (sym c.in_use.ensures ∙ c.if-not-in_use.false)
    (sym c.is_running.ensures ∙ c.if-not-is_running.false) _ _
    c.chain_end-end.ensures
    c.executor_in-executor.ensures
    c.if-executor-s.true)

pub returns-else-executor-s : goal.returns-else-executor-s
returns-else-executor-s c =
    and_said _ _
    (doing_spins _ _ (sym c.in_use.ensures ∙ c.if-not-in_use.false)
    (sym c.is_running.ensures ∙ c.if-not-is_running.false) _ _
    c.chain_end-end.ensures
    c.executor_in-executor.ensures
    c.if-executor-s.false)
