-- `bound::draw::outer_of` meets its contract. Assumes nothing.
use Rattle.std.proofs.Common.{sym, ap, ◌∙◌, ◌<◌, arith}
use Rattle.bound.specs.Sets.{with}
use Rattle.bound.specs.Table.{section_at}
use Rattle.bound.proofs.Accepted.{accepted_table}
use Rattle.bound.proofs.Masks.{mask_none}
use Rattle.bound.proofs.Outwards.{outer_none, outer_is}
use Rattle.bound.proofs.draw.outer_of.Goals as goal
use Rattle.bound.proofs.draw.outer_of.Goals.{In-Some}

-- the parent is an earlier section
earlier : (c : In-Some) → c.in-Some.p < c.args.i
earlier c = (accepted_table _ c.requires.accepted).parent_earlier c.args.i c.in-Some.p c.requires.there c.in-Some.is

pub bounds : goal.bounds
bounds c = omega (arith, (accepted_table _ c.requires.accepted).count_most)

pub bounds-outers-p : goal.bounds-outers-p
bounds-outers-p c = omega (arith, earlier (goal.at.bounds-outers-p c).In-Some, (accepted_table _ c.requires.accepted).count_most)

pub bounds-s-p : goal.bounds-s-p
bounds-s-p c = omega (arith, earlier (goal.at.bounds-s-p c).In-Some, (accepted_table _ c.requires.accepted).count_most)

pub with-requires : goal.with-requires
with-requires c =
    let there : c.in-Some.p < c.args.s.now.count = omega (arith, earlier (goal.at.with-requires c).In-Some) in
    omega (arith, (accepted_table _ c.requires.accepted).resource_most c.in-Some.p there)

pub returns-in-None : goal.returns-in-None
returns-in-None c = mask_none ∙ sym (outer_none _ _ c.in-None.is)

pub returns-in-Some : goal.returns-in-Some
returns-in-Some c =
    c.with.ensures
    ∙ ap (λ o. with o (section_at c.args.s.now c.in-Some.p).resource) (c.requires.drawn c.in-Some.p (earlier (goal.at.returns-in-Some c).In-Some))
    ∙ sym (outer_is _ (accepted_table _ c.requires.accepted) _ _ c.requires.there c.in-Some.is)
