-- `events::servers::recharge_refusal` meets its contract. A return for each test. Assumes nothing.
use mathlib.Core.Path.{refl, sym, ◌∙◌}
use Rattle.laws.specs.Tests.{first_of}
use Rattle.events.proofs.Refusals.{last_told}
use Rattle.events.proofs.servers.recharge_refusal.Goals as goal

pub returns-then-not-is_recharging : goal.returns-then-not-is_recharging
unfolding first_of
returns-then-not-is_recharging c =
    rw (c.requires.0, ← c.requires.1, sym c.is_recharging.ensures ∙ c.if-not-is_recharging.true)

pub returns : goal.returns
unfolding first_of
returns c =
    rw (c.requires.0, ← c.requires.1, sym c.is_recharging.ensures ∙ c.if-not-is_recharging.false) (last_told _ _ _ _ c.refused_if.ensures refl)
