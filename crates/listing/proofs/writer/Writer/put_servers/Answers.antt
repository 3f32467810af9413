-- `listing::writer::Writer::put_servers` meets its contract. Assumes nothing.
use mathlib.Core.Path.{sym, ◌∙◌}
use Rattle.model.specs.State.{here}
use Rattle.listing.specs.Text.{server_line_most}
use Rattle.listing.proofs.InUse.{lines_none, lines_more, lines_skip, server_line_lem, no_server_lem}
use Rattle.listing.proofs.writer.Writer.put_servers.Goals as goal
use Rattle.listing.proofs.writer.Writer.put_servers.Goals.{else-in_use, then-in_use}

pub loop-s-init : goal.loop-s-init
loop-s-init c = lines_none server_line_most _ _

pub loop-s-preserved : goal.loop-s-preserved
unfolding here
loop-s-preserved c =
    let test = sym c.in_use.ensures in
    elim c.if-in_use.branch [ then-in_use w ↦ rw w.self-is (lines_more server_line_most _ _ _ c.loop-s.invariant (server_line_lem _ _ (test ∙ w.if-in_use.true)) w.put_server.ensures) | else-in_use w ↦ rw w.self-is (lines_skip server_line_most _ _ c.loop-s.invariant (no_server_lem _ _ (test ∙ w.if-in_use.false))) ]
