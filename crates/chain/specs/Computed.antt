-- How the chain ends are computed: the numbers of an array, the links that owners and waits make, and the walk along them. That it comes to the chain
-- ends of specs/Arrays.antt is a law (proofs/Arrays.antt, `ends_are`). Assumes nothing.
use Rattle.std.specs.Prelude.{List, ℕ, zero, suc, ltb, get_or, if◌then◌else◌}
use Rattle.model.specs.declared.TaskNo.{TaskNo}
use Rattle.model.specs.State.{places, nobody}
use Rattle.chain.specs.Arrays.{array_of, tasks_of}

-- an array of tasks' numbers as plain numbers, which can be lent
unfoldable pub number_at : List TaskNo → ℕ → ℕ
number_at xs i = (get_or xs i (record { 0 = 0 })).0

unfoldable pub numbers_of : List TaskNo → List ℕ
numbers_of xs = array_of (number_at xs)

-- what an array has at i, nobody past its end
unfoldable pub at_or_nobody : List ℕ → ℕ → ℕ
at_or_nobody xs i = if ltb i places then get_or xs i 0 else nobody

-- the links: the owner of what each task waits for
unfoldable pub link_at : List ℕ → List ℕ → ℕ → ℕ
link_at owners wants t = at_or_nobody owners (get_or wants t 0)

unfoldable pub links_by : List ℕ → List ℕ → List ℕ
links_by owners wants = array_of (link_at owners wants)

-- the walk along an array of links: one step of it, and all
unfoldable pub end_step : (ℕ → ℕ) → List ℕ → ℕ → ℕ
end_step rest links t = if ltb t places then (if ltb (get_or links t 0) places then rest (get_or links t 0) else t) else t

unfoldable pub end_by : ℕ → List ℕ → ℕ → ℕ
end_by zero links t = t
end_by (suc left) links t = end_step (end_by left links) links t

unfoldable pub ends_by : List ℕ → List ℕ → List TaskNo
ends_by owners wants = tasks_of (end_by places (links_by owners wants))
