-- The interference sum and the ordering value, after Fig. 5 of document 004, each with its count of weighings.
-- Two numbers fall: the tasks outside B (`level`), and within a level the depth (`sums`) or the tasks left to order (`order`).
-- No calculation sees an allowance. Assumes nothing; for accepted tables proofs/ shows that the numbers cut nothing off.
use Rattle.std.specs.Prelude.{ℕ, zero, suc, ◌+◌, ◌-◌, Bool, true, false, not, ◌&&◌, ltb, eqb, if◌then◌else◌, Option, Some, None}
use Rattle.laws.specs.Loops.{fold_to}
use Rattle.bound.specs.declared.Sections.{Sections}
use Rattle.bound.specs.Sets.{task_numbers, Tasks, Resources, no_task, no_resource, has, with, without, joined, meets}
use Rattle.bound.specs.Table.{section_numbers, Parent, section_at, directly_in, outer}

-- a value, the section that gave it if one did, and the weighings spent on it
pub record Weighed : Type 0 where
  pub value : ℕ
  pub giver : Option ℕ
  pub weighings : ℕ

abbrev pub weighed : ℕ → Option ℕ → ℕ → Weighed
weighed value giver weighings = record { value = value; giver = giver; weighings = weighings }

abbrev pub nothing : Weighed
nothing = weighed 0 None 0

-- two findings one after the other: values and weighings add up
abbrev pub both : Weighed → Weighed → Weighed
both found new = weighed (found.value + new.value) None (found.weighings + new.weighings)

-- the larger of two values, with the weighings spent on either
abbrev pub larger : Weighed → Weighed → Weighed
larger found new = weighed (if ltb found.value new.value then new.value else found.value) None (found.weighings + new.weighings)

-- the first n turns of a loop: what turn i gives is joined to what the turns before it gave
unfoldable pub gathered : (ℕ → Weighed → Weighed → Weighed) → (ℕ → Weighed) → ℕ → Weighed
gathered join give zero = nothing
gathered join give (suc n) = join n (gathered join give n) (give n)

-- interference (rule 12.4), by B, the task, what its sections stand in, and R
abbrev pub Calculation : Type 0
Calculation = Tasks → ℕ → Parent → Resources → Weighed

-- what a section weighs, by B, Held and its number
abbrev pub Weighing : Type 0
Weighing = Tasks → Resources → ℕ → Weighed

-- what a section gives in an order (rule 12.5), and one weighing for it whatever it gives (rule 12.8)
unfoldable pub weighing_if : Bool → Calculation → Sections → Weighing
weighing_if true same s b held i = weighed 0 None 1
weighing_if false same s b held i =
    let x = (section_at s i).task.0 in
    both (weighed (section_at s i).length None 1) (same (with b x) x (Some i) (joined held (outer s i)))

abbrev pub weighing : Calculation → Sections → Weighing
weighing same s b held i = weighing_if (meets (outer s i) held) same s b held i

-- section i is task x's, on resource q
abbrev pub is_on : Sections → ℕ → ℕ → ℕ → Bool
is_on s q x i = eqb (section_at s i).task.0 x && eqb (section_at s i).resource q

-- section i where it is one that task x weighs for resource q
unfoldable pub weighed_on : (ℕ → Weighed) → Sections → ℕ → ℕ → ℕ → Weighed
weighed_on weigh s q x i = if is_on s q x i then weigh i else nothing

-- section i against what was found before it, which stays where the two are equal (rule 12.5)
abbrev pub first_greatest : ℕ → Weighed → Weighed → Weighed
first_greatest i found new =
    let better = ltb found.value new.value in
    weighed (if better then new.value else found.value) (if better then Some i else found.giver) (found.weighings + new.weighings)

unfoldable pub best : (ℕ → Weighed) → Sections → ℕ → ℕ → Weighed
best weigh s q x = gathered first_greatest (weighed_on weigh s q x) s.count

-- Held after the task: with the outer resources of the section that counts, or as it was where none gives anything (rule 12.5)
abbrev pub held_after : Sections → Resources → Option ℕ → Resources
held_after s held None = held
held_after s held (Some i) = joined held (outer s i)

-- the orders with task x next (rule 12.8); B is the same for all that follows (rule 12.7)
unfoldable pub tried_next : Weighing → (Tasks → Tasks → Resources → Weighed) → Sections → ℕ → Tasks → Tasks → Resources → ℕ → Weighed
tried_next weigh after s q b remaining held x =
    let next = best (weigh b held) s q x in
    if has remaining x then both next (after b (without remaining x) (held_after s held next.giver)) else nothing

-- the largest sum over all orders (rule 12.5), `left` being how many tasks remain
unfoldable pub order : ℕ → Weighing → Sections → ℕ → Tasks → Tasks → Resources → Weighed
order zero weigh s q b remaining held = nothing
order (suc left) weigh s q b remaining held = gathered (λ x. larger) (tried_next weigh (order left weigh s q) s q b remaining held) task_numbers

-- the tasks that may block (rule 12.5), with section i's where it is one of them
unfoldable pub blocker : Sections → ℕ → Tasks → ℕ → Tasks → Tasks
blocker s q b i found =
    if eqb (section_at s i).resource q && not (has b (section_at s i).task.0) then with found (section_at s i).task.0 else found

unfoldable pub blockers : Sections → ℕ → Tasks → Tasks
blockers s q b = fold_to s.count (blocker s q b) no_task

-- the ordering value (rule 12.5); Held begins as `entry` and is what outer resources are tested against (rule 12.7)
unfoldable pub ordering : ℕ → Calculation → Sections → Tasks → ℕ → Resources → Weighed
ordering left same s b q entry = order left (weighing same s) s q b (blockers s q b) entry

-- section c is task t's, directly in p
abbrev pub is_in : Sections → ℕ → Parent → ℕ → Bool
is_in s t p c = eqb (section_at s c).task.0 t && directly_in (section_at s c).parent p

-- what section c adds where it stands in p (rule 12.4): both parts have its own resource added to R
unfoldable pub sum_over : (ℕ → Resources → Weighed) → (Parent → Resources → Weighed) → Sections → ℕ → Parent → Resources → ℕ → Weighed
sum_over ordered same s t p r c =
    let wider = with r (section_at s c).resource in
    if is_in s t p c then both (ordered (section_at s c).resource wider) (same (Some c) wider) else nothing

-- the sum of rule 12.4
unfoldable pub sums : ℕ → (ℕ → Resources → Weighed) → Sections → ℕ → Parent → Resources → Weighed
sums zero ordered s t p r = nothing
sums (suc depth) ordered s t p r = gathered (λ c. both) (sum_over ordered (sums depth ordered s t) s t p r) s.count

-- the two calculations in turn: `left` tasks are outside B, and sections nest to `depth`
unfoldable pub level : ℕ → ℕ → Sections → Calculation
level zero depth s b t p r = nothing
level (suc left) depth s b t p r = sums depth (ordering (suc left) (level left section_numbers s) s b) s t p r

-- rule 12.6
unfoldable pub bound : Sections → ℕ → Weighed
bound s t = level (s.tasks - 1) section_numbers s (with no_task t) t None no_resource
