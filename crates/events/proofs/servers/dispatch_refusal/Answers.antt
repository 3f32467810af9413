-- `events::servers::dispatch_refusal` meets its contract. A return for each test. Assumes nothing.
use mathlib.Core.Path.{ap, sym, ◌∙◌}
use Rattle.laws.specs.Tests.{first_of}
use lib.Dec.{leb}
use Rattle.model.specs.Step.{crowded}
use Rattle.events.proofs.Refusals.{last_told}
use Rattle.events.proofs.servers.dispatch_refusal.Goals as goal

pub returns-then-not-is_active : goal.returns-then-not-is_active
unfolding first_of crowded
returns-then-not-is_active c =
    rw (c.requires.0, ← c.requires.1, sym c.is_active.ensures ∙ c.if-not-is_active.true)

pub returns : goal.returns
unfolding first_of crowded
returns c =
    rw (c.requires.0, ← c.requires.1, sym c.is_active.ensures ∙ c.if-not-is_active.false)
    (last_told _ _ _ _ c.refused_if.ensures (ap (leb c.args.st.processors) c.running_count.ensures))
