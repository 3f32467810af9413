-- `events::running::running_count` meets its contract. Assumes nothing.
use mathlib.Core.Path.{sym, ap, ◌∙◌}
use Prim.Native.Nat.{◌+◌}
use native.Mathlib.Omega.{arith}
use Rattle.laws.proofs.Count.{bit_le, bit_byte, count_none, count_more, count_same}
use Rattle.model.specs.State.{here}
use Rattle.events.proofs.Turns.{running_here, running_past}
use Rattle.events.proofs.running.running_count.Goals as goal
use Rattle.events.proofs.running.running_count.Goals.{else-in_use, then-in_use}

pub loop-s-init : goal.loop-s-init
unfolding here
loop-s-init c =
    (omega arith, omega arith, count_none _)

pub loop-s-preserved : goal.loop-s-preserved
unfolding here
loop-s-preserved c =
    let used = sym c.in_use.ensures in
    elim c.if-in_use.branch [
      | then-in_use w ↦ (
        omega arith,
        omega (arith, w.count-is, (w.from-count.ensures ∙ bit_byte _), bit_le w.is_running.result),
        w.count-is ∙ ap (λ x. c.loop-s.count + x) (w.from-count.ensures ∙ bit_byte _)
            ∙ count_more _ _ _ _ (running_here _ _ _ (used ∙ w.if-in_use.true) w.is_running.ensures) c.loop-s.invariant.2,
      )
      | else-in_use w ↦ (omega arith, omega arith, w.count-is ∙ count_same _ _ _ (running_past _ _ (used ∙ w.if-in_use.false)) c.loop-s.invariant.2)
    ]
