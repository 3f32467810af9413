-- `events::servers::elapse_refusal` meets its contract. A return for each test. Assumes nothing.
use mathlib.Core.Path.{sym, ap, ◌∙◌}
use borrow.Author.Tests.{lt-ltb, le-ltb}
use mathlib.Core.Bool.{not}
use Rattle.laws.specs.Tests.{first_of}
use Rattle.events.proofs.Refusals.{last_told}
use Rattle.events.proofs.servers.elapse_refusal.Goals as goal

pub returns-then-is_out_of_range : goal.returns-then-is_out_of_range
unfolding first_of
returns-then-is_out_of_range c =
    rw (sym c.is_out_of_range.ensures ∙ c.if-is_out_of_range.true)

pub returns-then-from : goal.returns-then-from
unfolding first_of
returns-then-from c =
    rw (sym c.is_out_of_range.ensures ∙ c.if-is_out_of_range.false, lt-ltb 4000000000 _ (rw (c.from.ensures, c.from-2.ensures, c.from-3.ensures) at c.if-from.true))

pub returns : goal.returns
unfolding first_of
returns c =
    rw (sym c.is_out_of_range.ensures ∙ c.if-is_out_of_range.false, le-ltb 4000000000 _ (rw (c.from.ensures, c.from-2.ensures, c.from-3.ensures) at c.if-from.false)) (last_told _ _ _ _ c.refused_if.ensures (ap not c.all_afford.ensures))
