-- `events::standing::shifted` meets its contract: what is copied are the places after the first. Assumes nothing.
use Rattle.std.proofs.Common.{◌-◌, ap, ◌∙◌, rules, arith}
use lib.ListN.{get_or, drop}
use Rattle.std.proofs.lemmas.List.{length-take-le, get_or-take, get_or-drop}
use Rattle.events.proofs.Changes.{shift_done}
use Rattle.events.proofs.standing.shifted.Goals as goal

pub returns : goal.returns
returns c =
    let queue = c.args.queue in
    let last = c.args.waiting - 1 in
    shift_done queue c.copy_from_slice.new.self last (search rules) (omega arith)
    (rw c.copy_from_slice.ensures.len (length-take-le last queue (search rules)))
    (λ k d l.
    rw c.copy_from_slice.ensures.after (get_or-take last (drop 1 queue) k d l ∙ get_or-drop 1 queue k d ∙ ap (λ i. get_or queue i d) (omega arith)))
