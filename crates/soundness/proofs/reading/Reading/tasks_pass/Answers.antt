-- `soundness::reading::Reading::tasks_pass` meets its contract. Assumes nothing.
use Rattle.std.proofs.Common.{rules}
use mathlib.Core.Path.{ap, ap₂, ◌∙◌}
use borrow.Author.Tests.{tests}
use lib.Dec.{eqb}
use Rattle.laws.proofs.All.{all_checked}
use Rattle.model.specs.Sound.{if_here, each}
use Rattle.soundness.specs.Computed.{task_passes_at, tasks_pass, used_in}
use Rattle.soundness.proofs.Turns.{and_goes, and_stops}
use Rattle.soundness.proofs.reading.Reading.tasks_pass.Goals as goal

pub returns-then-all : goal.returns-then-all
unfolding tasks_pass each
returns-then-all c =
    and_goes
    _
    _
    c.all.result
    _
    (all_checked 16 (if_here c.args.self.now.st.now (task_passes_at c.args.self.now.st.now)) c.all.ensures.ran (λ x q k. search (rules, tests)) (λ x q k. search (rules, tests)))
    c.if-all.true
    (ap₂ eqb c.stacked.ensures (c.from.ensures ∙ c.used.ensures ∙ ap used_in c.args.self.now.owners_read))

pub returns-else-all : goal.returns-else-all
unfolding tasks_pass each
returns-else-all c =
    and_stops
    _
    _
    c.all.result
    (all_checked 16 (if_here c.args.self.now.st.now (task_passes_at c.args.self.now.st.now)) c.all.ensures.ran (λ x q k. search (rules, tests)) (λ x q k. search (rules, tests)))
    c.if-all.false
