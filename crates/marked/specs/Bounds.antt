-- Tables of sections, and the bounds that tell wrong variants of the calculation apart. Assumes nothing.
use Rattle.std.specs.Prelude.{None, Some, List, [], ◌∷◌}
use Rattle.bound.specs.declared.Sections.{Sections}
use Rattle.bound.specs.Answer.{bounded}
use Rattle.marked.specs.Example.{Example, bounds}
use Rattle.marked.specs.Marked.{section, sections_of}

-- a task that comes later in an order sees no more of B for what came before it
abbrev pub unmoved : Sections
unmoved =
    sections_of 3
    (section 2 0 8 None ∷ section 2 2 7 (Some 0) ∷ section 1 0 4 None ∷ section 0 0 5 None ∷ section 0 2 6 None ∷ [])

-- two sections of a task are equally great, and have other outer resources
abbrev pub equals : Sections
equals =
    sections_of 3
    (section 0 3 1 None ∷ section 1 0 5 None ∷ section 1 3 2 (Some 1) ∷ section 1 1 5 None ∷ section 1 3 2 (Some 3)
    ∷ section 2 0 9 None ∷ section 2 1 8 (Some 5) ∷ section 2 3 3 (Some 6) ∷ section 2 1 5 None ∷ section 2 3 2 (Some 8) ∷ [])

-- what is nested in a weighed section is calculated with its outer resources
abbrev pub nested : Sections
nested =
    sections_of 3
    (section 1 0 2 None ∷ section 2 0 5 None ∷ section 2 1 5 (Some 1) ∷ section 1 3 2 (Some 0) ∷ section 2 3 1 (Some 2)
    ∷ section 0 1 1 None ∷ [])

-- the table for which the bound is less than what a server can lose (docs/PROVED.md)
abbrev pub unsafe : Sections
unsafe =
    sections_of 3
    (section 0 2 1 None ∷ section 1 0 20 None ∷ section 1 2 4 (Some 1) ∷ section 1 1 20 None ∷ section 1 2 4 (Some 3)
    ∷ section 2 0 20 None ∷ section 2 1 10 (Some 5) ∷ section 2 2 7 (Some 6) ∷ section 2 2 6 (Some 5) ∷ [])

abbrev pub calculations : List Example
calculations =
    bounds unmoved 1 1000000 (bounded 19 6)
    ∷ bounds equals 0 1000000 (bounded 4 8)
    ∷ bounds nested 0 1000000 (bounded 5 2)
    ∷ bounds unsafe 0 1000000 (bounded 7 8)
    ∷ []
