-- `soundness::lists::used` meets its contract. Assumes nothing.
use Rattle.std.proofs.Common.{rules, ◌+◌}
use mathlib.Core.Path.{refl, ap, ◌∙◌}
use native.Mathlib.Omega.{arith}
use Rattle.laws.proofs.Count.{bit_le, bit_byte, count_le, count_none, count_more, count_done}
use Rattle.soundness.specs.Computed.{used_at, used_in}
use Rattle.soundness.proofs.lists.used.Goals as goal

pub loop-x-init : goal.loop-x-init
loop-x-init c = count_none _

pub overflow_add-count : goal.overflow_add-count
unfolding used_at
overflow_add-count c =
    omega (
      arith,
      c.loop-x.invariant,
      c.loop-x-test.true,
      count_le c.loop-x.x-index (used_at c.args.xs.now),
      c.from-count.ensures ∙ bit_byte _,
      bit_le (used_at c.args.xs.now c.loop-x.x-index),
    )

pub loop-x-preserved : goal.loop-x-preserved
unfolding used_at
loop-x-preserved c =
    ap (λ n. c.loop-x.count + n) (c.from-count.ensures ∙ bit_byte _) ∙ count_more _ _ _ _ refl c.loop-x.invariant

pub returns : goal.returns
unfolding used_in
returns c = count_done _ _ _ _ (search rules) (search rules) c.loop-x.invariant
