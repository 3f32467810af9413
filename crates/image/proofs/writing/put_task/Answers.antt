-- `image::writing::put_task` meets its contract. Assumes nothing.
use Rattle.std.specs.Option.{option_map}
use mathlib.Core.Path.{◌≡◌, refl, ap, ◌∙◌}
use borrow.Author.Rules.{rules}
use Rattle.image.specs.Encoded.{number_tagged, runs_tagged, task_bytes}
use Rattle.image.proofs.Parts.{tagged_long, held_long}
use Rattle.lent_bytes.proofs.Codec.{two_long, four_long}
use Rattle.lent_bytes.proofs.Parts.{first, next}
use Rattle.image.proofs.writing.put_task.Goals as goal

pub returns : goal.returns
unfolding task_bytes
returns c =
    let runs : c.into-2.result ≡ runs_tagged c.args.t.now.runs =
    c.into-2.ensures ∙ ap number_tagged (let e : c.map.result ≡ option_map (λ s. s.0) c.args.t.now.runs = search rules in e) in
    let w0 = first c.put_tagged.ensures (tagged_long _) in
    let w1 = next w0 _ _ c.put_tagged-2.ensures (tagged_long _) refl in
    let w2 = next w1 _ _ c.put_two.ensures (two_long _) refl in
    let w3 = next w2 _ _ c.put_two-2.ensures (two_long _) refl in
    let w4 = next w3 _ _ c.put_four.ensures (four_long _) refl in
    rw (← c.into.ensures, ← runs) (next w4 _ _ c.put_numbers.ensures (held_long _) refl).done
