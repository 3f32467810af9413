-- `image::writing::write` meets its contract: the header, then a loop each for the servers, the tasks and the resources in use. Assumes nothing.
use mathlib.Core.Path.{refl, ◌∙◌}
use borrow.Author.Rules.{rules}
use native.Mathlib.Omega.{arith}
use Rattle.image.specs.Encoded.{entries, entry_bytes, server_bytes, task_bytes, resource_bytes, header_bytes}
use Rattle.image.proofs.Parts.{server_codec, task_codec, resource_codec, taken_stored}
use Rattle.image.proofs.Image.{write_whole}
use Rattle.lent_bytes.proofs.Codec.{two_long, four_long}
use Rattle.lent_bytes.proofs.Parts.{first, next, filled_none, filled_more, filled_done}
use Rattle.image.proofs.writing.write.Goals as goal

pub loop-i-init : goal.loop-i-init
loop-i-init c = (omega (arith, c.used-tasks_used.ensures), search rules, filled_none _ _ _ _)

pub loop-i-preserved : goal.loop-i-preserved
unfolding entry_bytes
loop-i-preserved c =
    let inv = c.loop-i.invariant in
    (inv.0, inv.1, filled_more 29 (λ j. server_codec.long _) inv.2 (omega arith) _ (taken_stored server_bytes _ c.used-tasks_used.result c.loop-i.i _ _ _ (omega arith) c.put_server.ensures))

pub loop-i-2-init : goal.loop-i-2-init
loop-i-2-init c =
    let inv = c.loop-i.invariant in
    (inv.0, inv.2.same ∙ inv.1, filled_none _ _ _ _)

pub loop-i-2-preserved : goal.loop-i-2-preserved
unfolding entry_bytes
loop-i-2-preserved c =
    let inv = c.loop-i-2.invariant in
    (inv.0, inv.1, filled_more 46 (λ j. task_codec.long _) inv.2 (omega arith) _ (taken_stored task_bytes _ c.used-tasks_used.result c.loop-i-2.i _ _ _ (omega arith) c.put_task.ensures))

pub loop-i-3-init : goal.loop-i-3-init
loop-i-3-init c =
    let inv = c.loop-i-2.invariant in
    (omega (arith, c.used-resources_used.ensures), inv.2.same ∙ inv.1, filled_none _ _ _ _)

pub loop-i-3-preserved : goal.loop-i-3-preserved
unfolding entry_bytes
loop-i-3-preserved c =
    let inv = c.loop-i-3.invariant in
    (inv.0, inv.1, filled_more 37 (λ j. resource_codec.long _) inv.2 (omega arith) _ (taken_stored resource_bytes _ c.used-resources_used.result c.loop-i-3.i _ _ _ (omega arith) c.put_resource.ensures))

pub returns-clause-image : goal.returns-clause-image
unfolding header_bytes entries
returns-clause-image c =
    let w0 = first c.put_two.ensures (two_long _) in
    let w1 = next w0 _ _ c.put_two-2.ensures (two_long _) refl in
    let w2 = next w1 _ _ c.put_two-3.ensures (two_long _) refl in
    let w3 = next w2 _ _ c.put_four.ensures (four_long _) refl in
    write_whole _ _ _ _ c.used-tasks_used.ensures c.used-resources_used.ensures c.if-bytes-ne-IMAGE_SIZE.false w3.done
    (filled_done c.loop-i.invariant.2 (omega arith))
    (filled_done c.loop-i-2.invariant.2 (omega arith))
    (filled_done c.loop-i-3.invariant.2 (omega arith))
