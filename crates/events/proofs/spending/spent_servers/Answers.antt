-- `events::spending::spent_servers` meets its contract. Assumes nothing.
use mathlib.Core.Path.{sym, ◌∙◌}
use Rattle.laws.proofs.Count.{bit_byte}
use Rattle.model.specs.State.{here}
use Rattle.chain.proofs.Arrays.{end_served, end_below}
use Rattle.events.proofs.Turns.{counting_none, counting_more, counting_skip, counting_done, executes_here}
use Rattle.events.proofs.Ticks.{out_here, out_past, spent_here, lasts, accounts_fit_lem}
use Rattle.events.proofs.spending.spent_servers.Goals as goal
use Rattle.events.proofs.spending.spent_servers.Goals.{else-in_use, then-in_use}

pub loop-s-init : goal.loop-s-init
unfolding here
loop-s-init c =
    counting_none

pub bounds-st-end : goal.bounds-st-end
unfolding here
bounds-st-end c =
    end_below _ _ _ c.requires.ends_value c.loop-s-test.true

pub spent_server-requires : goal.spent_server-requires
unfolding here
spent_server-requires c =
    let used = sym c.in_use.ensures ∙ c.if-in_use.true in
    record {
      n_le_budget = lasts _ _ c.requires.n_value _ used;
      n_bound = accounts_fit_lem _ _ c.requires.st_value c.requires.n_bound _ used;
    }

pub loop-s-preserved : goal.loop-s-preserved
unfolding here
loop-s-preserved c =
    let used = sym c.in_use.ensures in
    let end = end_served _ _ _ c.requires.ends_value c.loop-s-test.true in
    elim c.if-in_use.branch [
      | then-in_use w ↦ let here = used ∙ w.if-in_use.true in
          let executing = executes_here _ _ _ _ _ here end w.is_running.ensures w.executor_in-executor.ensures in
          counting_more c.loop-s-test.true c.loop-s.invariant here w.servers-is (spent_here _ _ _ _ _ _ here end executing w.spent_server.ensures) w.count-is (w.from-count.ensures ∙ bit_byte _) (out_here _ _ _ _ here w.runs_out.ensures)
      | else-in_use w ↦ counting_skip c.loop-s-test.true c.loop-s.invariant (used ∙ w.if-in_use.false) w.servers-is w.count-is (out_past _ _ _ (used ∙ w.if-in_use.false))
    ]

pub returns : goal.returns
unfolding here
returns c =
    counting_done c.loop-s-test.false c.loop-s.invariant
