-- `events::turning::turned_servers` meets its contract. Assumes nothing.
use mathlib.Core.Path.{sym, ◌∙◌}
use Rattle.laws.proofs.Count.{bit_byte}
use Rattle.model.specs.State.{here}
use Rattle.chain.proofs.Arrays.{end_served}
use Rattle.events.proofs.Turns.{counting_none, counting_more, counting_skip, counting_done, turns_here, turns_past, turned_here}
use Rattle.events.proofs.turning.turned_servers.Goals as goal
use Rattle.events.proofs.turning.turned_servers.Goals.{else-in_use, then-in_use}

pub loop-s-init : goal.loop-s-init
unfolding here
loop-s-init c =
    counting_none

pub turned_if-requires : goal.turned_if-requires
unfolding here
turned_if-requires c =
    c.requires.by_index _ (sym c.in_use.ensures ∙ c.if-in_use.true)

pub loop-s-preserved : goal.loop-s-preserved
unfolding here
loop-s-preserved c =
    let used = sym c.in_use.ensures in
    elim c.if-in_use.branch [
      | then-in_use w ↦ let here = used ∙ w.if-in_use.true in
          let turning = turns_here _ _ _ _ _ _ here (end_served _ _ _ c.requires.ends_value c.loop-s-test.true) w.is_turning-turns.ensures in
          counting_more c.loop-s-test.true c.loop-s.invariant here w.servers-is (turned_here _ _ _ _ _ _ turning w.turned_if.ensures) w.count-is (w.from-count.ensures ∙ bit_byte _) turning
      | else-in_use w ↦ counting_skip c.loop-s-test.true c.loop-s.invariant (used ∙ w.if-in_use.false) w.servers-is w.count-is (turns_past _ _ _ _ (used ∙ w.if-in_use.false))
    ]

pub returns : goal.returns
unfolding here
returns c =
    counting_done c.loop-s-test.false c.loop-s.invariant
