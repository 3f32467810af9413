-- `image::writing::put_resource` meets its contract. Assumes nothing.
use Rattle.std.specs.Option.{option_map}
use mathlib.Core.Path.{◌≡◌, refl, ap, ◌∙◌}
use borrow.Author.Rules.{rules}
use Rattle.lent_bytes.specs.Numbers.{two}
use Rattle.model.specs.State.{places}
use Rattle.image.specs.Encoded.{number_tagged, owner_tagged, entries, entry_bytes, no_task_no, task_no_bytes, resource_bytes}
use Rattle.image.proofs.Chains.{mapped_joined}
use Rattle.image.proofs.Parts.{tagged_long, held_long}
use Rattle.lent_bytes.proofs.Codec.{two_long}
use Rattle.lent_bytes.proofs.Parts.{first, next}
use Rattle.image.proofs.writing.put_resource.Goals as goal

pub returns : goal.returns
unfolding resource_bytes entries entry_bytes task_no_bytes
returns c =
    let owner : c.into.result ≡ owner_tagged c.args.r.now.owner =
    c.into.ensures ∙ ap number_tagged (let e : c.map.result ≡ option_map (λ t. t.0) c.args.r.now.owner = search rules in e) in
    let queue : entries two 0 places c.map-2.result ≡ entries task_no_bytes no_task_no places c.args.r.now.queue =
    mapped_joined 16 (λ t. t.0) (λ x y p q k. search rules) c.map-2.ensures.items no_task_no 0 two in
    let w0 = first c.put_tagged.ensures (tagged_long _) in
    let w1 = next w0 _ _ c.put_two.ensures (two_long _) refl in
    rw (← owner, ← queue) (next w1 _ _ c.put_numbers.ensures (held_long _) refl).done
