-- Why a task does not act: which of 61, 62 and 63 refuses it, and what each one means (rule 10.4). Assumes nothing.
use Rattle.std.specs.Prelude.{◌≡◌, true, ℕ, ◌+◌, ◌≤◌}
use Rattle.laws.specs.Tests.{bit}
use Rattle.reordering.specs.Order.{group}
use Rattle.model.specs.declared.Mode.TheVariants.{Waiting}
use Rattle.model.specs.declared.State.{State}
use Rattle.model.specs.declared.Event.{Event}
use Rattle.model.specs.declared.Answer.TheVariants.{RefusedWaiting}
use Rattle.model.specs.State.{TaskNumber, ResourceNumber, task_at, here, present, executing}
use Rattle.model.specs.Sound.{sound}
use Rattle.model.specs.Shape.{Shaped}
use Rattle.model.specs.Events.{number_of}
use Rattle.model.specs.Step.{stepped}
use Rattle.model.specs.Stalled.{asleep, awaits, unserved, Admitted}
use Rattle.model.specs.Groups.{group_of, kind_of}
use Rattle.theory.specs.Runs.{refused_by}

-- in a sound state a task in use is asleep, awaits a resource, is unserved or executes, and is only one of these: so the three exclude each other, and
-- together they are what does not execute
abbrev pub OneOfFour : Type 0
OneOfFour =
    (st : State) → sound st ≡ true → (t : TaskNumber) → here st t ≡ true →
    bit (asleep st t) + bit (awaits st t) + bit (unserved st t) + bit (executing st t) ≡ 1

-- a suspend, lock or unlock that the tests before let through is refused with the number that tells which of the three its task is,
abbrev pub Which : Type 0
Which =
    (st : State) → sound st ≡ true → (e : Event) → Admitted st e →
    (refused_by 61 (stepped st e).answer ≡ asleep st (number_of e)) ×
    (refused_by 62 (stepped st e).answer ≡ awaits st (number_of e)) ×
    (refused_by 63 (stepped st e).answer ≡ unserved st (number_of e))

-- and no other event is refused so
abbrev pub NoOther : Type 0
NoOther = (st : State) (e : Event) (n : ℕ) → 61 ≤ n → refused_by n (stepped st e).answer ≡ true → (sound st ≡ true) × Admitted st e

-- every refusal by 62 names a resource, which is there, and is the one that the task itself awaits
abbrev pub NamesAwaited : Type 0
NamesAwaited =
    (st : State) (e : Event) → refused_by 62 (stepped st e).answer ≡ true →
    (r : ResourceNumber) × ((stepped st e).answer ≡ RefusedWaiting r) × ((task_at st (number_of e)).mode ≡ Waiting r) × (present st r ≡ true)

-- rule 11.1: the mode of a task, with what it awaits, and whether it is unserved are its group's: no event of another group changes them
abbrev pub GroupsOwn : Type 0
GroupsOwn =
    (st : State) → Shaped st → sound st ≡ true → (e : Event) (t : TaskNumber) (other : ℕ) →
    kind_of st e ≡ group other → (other ≡ group_of st t → ⊥) →
    ((task_at (stepped st e).state t).mode ≡ (task_at st t).mode) × (unserved (stepped st e).state t ≡ unserved st t)
