-- `soundness::reading::Waits::resources_pass` meets its contract. Assumes nothing.
use Rattle.std.proofs.Common.{rules}
use mathlib.Core.Path.{ap, ap₂, ◌∙◌}
use borrow.Author.Tests.{tests}
use lib.Dec.{eqb}
use Rattle.laws.proofs.All.{all_checked}
use Rattle.model.specs.Sound.{if_present, each_resource}
use Rattle.soundness.specs.Computed.{resource_passes_at, resources_pass, used_in}
use Rattle.soundness.proofs.Turns.{and_goes, and_stops}
use Rattle.soundness.proofs.reading.Waits.resources_pass.Goals as goal

pub returns-then-all : goal.returns-then-all
unfolding resources_pass each_resource
returns-then-all c =
    and_goes
    _
    _
    c.all.result
    _
    (all_checked 16 (if_present c.args.self.now.reading.st.now (resource_passes_at c.args.self.now.reading.st.now)) c.all.ensures.ran (λ x q k. search (rules, tests)) (λ x q k. search (rules, tests)))
    c.if-all.true
    (ap₂ eqb c.queued.ensures (c.from.ensures ∙ c.used.ensures ∙ ap used_in c.args.self.now.wants_read))

pub returns-else-all : goal.returns-else-all
unfolding resources_pass each_resource
returns-else-all c =
    and_stops
    _
    _
    c.all.result
    (all_checked 16 (if_present c.args.self.now.reading.st.now (resource_passes_at c.args.self.now.reading.st.now)) c.all.ensures.ran (λ x q k. search (rules, tests)) (λ x q k. search (rules, tests)))
    c.if-all.false
