-- `soundness::reading::Chains::servers_pass` meets its contract. Assumes nothing.
use Rattle.std.proofs.Common.{rules}
use mathlib.Core.Path.{ap, ◌∙◌}
use borrow.Author.Tests.{tests, le-leb, lt-leb}
use Rattle.laws.proofs.All.{all_checked}
use Rattle.model.specs.Sound.{if_here, each}
use Rattle.soundness.specs.Computed.{server_passes_at, servers_pass, used_in}
use Rattle.soundness.proofs.reading.Chains.servers_pass.Goals as goal

pub returns-then-used-self : goal.returns-then-used-self
unfolding servers_pass each
returns-then-used-self c =
    rw (le-leb _ _ (rw (c.used.ensures ∙ ap used_in c.args.self.now.runs_read) at c.if-used-self.true))
    (all_checked 16 (if_here c.args.self.now.waits.reading.st.now (server_passes_at c.args.self.now.waits.reading.st.now)) c.all.ensures.ran (λ x q k. search (rules, tests)) (λ x q k. search (rules, tests)))

pub returns-else-used-self : goal.returns-else-used-self
unfolding servers_pass each
returns-else-used-self c =
    rw (lt-leb _ _ (rw (c.used.ensures ∙ ap used_in c.args.self.now.runs_read) at c.if-used-self.false)) (lt-leb _ _ c.if-used-self.false)
