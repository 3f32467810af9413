-- `image::reading::resource_in` meets its contract. Assumes nothing.
use mathlib.Core.Path.{◌≡◌}
use Prim.Native.Nat.{◌+◌}
use borrow.Author.Rules.{rules}
use Rattle.model.specs.State.{places}
use Rattle.image.specs.Encoded.{no_task_no}
use Rattle.image.specs.Decoded.{owner_of, tagged_in, entry_in, entries_in, task_no_in, resource_in}
use Rattle.image.proofs.Chains.{mapped_made}
use Rattle.image.proofs.reading.resource_in.Goals as goal

pub returns : goal.returns
unfolding resource_in entries_in entry_in
returns c =
    let owner : c.map.result ≡ owner_of (tagged_in c.args.bytes.now c.args.at) = search rules in
    let queue : c.map-2.result ≡ entries_in task_no_in 2 no_task_no places c.args.bytes.now (c.args.at + 5) =
    mapped_made 16 (λ n. record { 0 = n }) (λ x y p q k. search rules) c.map-2.ensures.items _ 0 no_task_no c.numbers_in.ensures in
    λ j. record { owner = owner j; waiting = c.two_bytes.ensures j; queue = queue j }
