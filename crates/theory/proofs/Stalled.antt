-- Why a task does not act (rule 10.4). In a sound state a task in use is asleep, awaits a resource, is unserved or executes, one of the four
-- (`one_of_four`); an event that is admitted is refused 61, 62 or 63 where its task is the first, the second or the third (`which`), other events never
-- (`tells_admitted`), and 62 names what the task awaits (`names_awaited`); no event of another group changes any of it (`others_leave`). Assumes nothing.
use Rattle.theory.proofs.Kit.{◌≡◌, refl, sym, ap, ◌∙◌, Bool, true, false, not, ◌&&◌, true≢false, List, ◌∷◌, Option, some, ⊎_elim, ℕ, ◌+◌, ◌≤◌, arith}
use Rattle.laws.specs.Tests.{bit, accepted, first_of}
use Rattle.laws.specs.Loops.{all_to}
use Rattle.laws.proofs.Cases.{split, holds_fails, unheld_fails, and_right, and_both, first_no}
use Rattle.laws.proofs.All.{all_each, all_fails, all_ext}
use Rattle.reordering.specs.Order.{group}
use Rattle.theory.proofs.Declared.{Mode, Suspended, Ready, Waiting, State, Event, Wake, Suspend, Dispatch, Preempt, Elapse, Recharge, Lock, Unlock, RefusedWaiting}
use Rattle.model.specs.State.{places, task_at, here, present, suspended, waiting, awaited, placed, executor_number, running_for, executing}
use Rattle.model.specs.Sound.{sound}
use Rattle.model.specs.Shape.{Shaped}
use Rattle.model.specs.Events.{number_of}
use Rattle.model.specs.Groups.{group_of, kind_of}
use Rattle.model.specs.Step.{stalled, tests, stepped}
use Rattle.model.specs.Stalled.{asleep, awaits, not_running_for, unserved, Admitted}
use Rattle.model.proofs.Chain.{here_below}
use Rattle.model.proofs.Sound.{Loose, sound_facts}
use Rattle.model.proofs.Stalled.{untold, later, admitted, admitted_here}
use Rattle.theory.specs.Runs.{refused_by}
use Rattle.theory.proofs.Readings.{for_here}
use Rattle.theory.proofs.Outcomes.{stepped_sound, tells, tells_not, outcome_tells}
use Rattle.theory.proofs.Refusals.{refused_why}
use Rattle.theory.proofs.Executing.{runs_ready, served_executes_lem}
use Rattle.theory.proofs.Agreement.{for_same, good_home}
use Rattle.theory.proofs.Order.{labels_of, left_alone}

-- one of the four, by the task's mode and whether it executes
four_sum
    : (m : Mode) (runs : Bool) → (runs ≡ true → m ≡ Ready)
    → bit (suspended m) + bit (waiting m) + bit (not (suspended m) && not (waiting m) && not runs) + bit runs ≡ 1
four_sum Suspended true ready = absurd (true≢false (ap suspended (ready refl)))
four_sum Suspended false ready = refl
four_sum Ready true ready = refl
four_sum Ready false ready = refl
four_sum (Waiting r) true ready = absurd (true≢false (ap waiting (ready refl)))
four_sum (Waiting r) false ready = refl

module _ (st : State) (s : sound st ≡ true) (t : ℕ) (used : here st t ≡ true) where
  facts : Loose st
  facts = ((sound_facts st).holds s).is_loose

  -- where a task executes a Running server serves it, and only there
  unplaced_unserved : not (placed (task_at st t).runs) ≡ all_to places (not_running_for st t)
  unfolding not_running_for executing
  unplaced_unserved =
      split
      (placed (task_at st t).runs)
      (λ y.
      let x : ℕ = executor_number (task_at st t).runs in
      let h : running_for st t x ≡ true = facts.executor t used y in
      ap not y ∙ all_fails (not_running_for st t) places x (here_below st x (for_here st t x h)) (sym (ap not h)))
      (λ n.
      ap not n
      ∙ sym (all_each (not_running_for st t) places
      (λ x l. ap not (unheld_fails _ (λ h. holds_fails (and_right (here st t) _ (served_executes_lem st facts t x used h)) n)))))

  pub one_of_four : bit (asleep st t) + bit (awaits st t) + bit (unserved st t) + bit (executing st t) ≡ 1
  unfolding unserved executing
  one_of_four =
      rw (used, ← unplaced_unserved) (four_sum (task_at st t).mode (placed (task_at st t).runs) (λ y. runs_ready st facts t (and_both _ _ used y)))

-- which of the three numbers comes first
three_told
    : (m : Mode) (runs : Bool) (following : List (ℕ × Bool)) → ((n : ℕ) → 61 ≤ n → first_of following ≡ some n → ⊥)
    → let first : Option ℕ = first_of ((61, suspended m) ∷ (62, waiting m) ∷ (63, not runs) ∷ following) in
    (tells 61 first ≡ suspended m) × (tells 62 first ≡ waiting m) × (tells 63 first ≡ (not (suspended m) && not (waiting m) && not runs))
unfolding first_of
three_told Suspended runs following low = (refl, refl, refl)
three_told Ready true following low =
    (tells_not 61 _ (low 61 (omega arith)), tells_not 62 _ (low 62 (omega arith)), tells_not 63 _ (low 63 (omega arith)))
three_told Ready false following low = (refl, refl, refl)
three_told (Waiting r) runs following low = (refl, refl, refl)

abbrev pub Told : State → Event → Type 0
Told st e =
    (refused_by 61 (stepped st e).answer ≡ asleep st (number_of e)) ×
    (refused_by 62 (stepped st e).answer ≡ awaits st (number_of e)) ×
    (refused_by 63 (stepped st e).answer ≡ unserved st (number_of e))

module _ (st : State) (s : sound st ≡ true) where
  told_by
      : (e : Event) → Admitted st e → (following : List (ℕ × Bool)) → first_of (tests st e) ≡ first_of (stalled (task_at st (number_of e)) following)
      → ((n : ℕ) → 61 ≤ n → first_of following ≡ some n → ⊥) → Told st e
  unfolding unserved
  told_by e a following first low =
      let k = task_at st (number_of e) in
      let told = three_told k.mode (placed k.runs) following low in
      let tells_as : (m : ℕ) → refused_by m (stepped st e).answer ≡ tells m (first_of (stalled k following)) =
      λ m. ap (λ o. refused_by m o.answer) (stepped_sound st e s) ∙ outcome_tells m (first_of (tests st e)) st e ∙ ap (tells m) first in
      (tells_as 61 ∙ told.0, tells_as 62 ∙ told.1, tells_as 63 ∙ told.2 ∙ rw (unplaced_unserved st s (number_of e) (admitted_here st e a)) refl)

  pub which : (e : Event) → Admitted st e → Told st e
  which (Wake t) a = absurd a
  which (Suspend t) a = told_by (Suspend t) a accepted (first_no _ _ _ (ap not a)) (λ n l h. untold n h)
  which (Dispatch x) a = absurd a
  which (Preempt x) a = absurd a
  which (Elapse n) a = absurd a
  which (Recharge x) a = absurd a
  which (Lock t r) a =
      told_by (Lock t r) a _ (first_no _ _ _ (ap not a.0) ∙ first_no _ _ _ (ap not a.1) ∙ first_no _ _ _ (ap not a.2))
      (λ n l h. untold n (later n l 16 refl _ _ (later n l 15 refl _ _ h)))
  which (Unlock t r) a =
      told_by (Unlock t r) a _ (first_no _ _ _ (ap not a.0) ∙ first_no _ _ _ (ap not a.1))
      (λ n l h. untold n (later n l 18 refl _ _ (later n l 17 refl _ _ h)))

-- the three are told of no other events
pub tells_admitted : (st : State) (e : Event) (n : ℕ) → 61 ≤ n → refused_by n (stepped st e).answer ≡ true → (sound st ≡ true) × Admitted st e
tells_admitted st e n high h =
    ⊎_elim (λ f. absurd (let one = f.1 in omega arith)) (λ r. (r.0, admitted n high st e r.1)) (refused_why st e n h)

waits_for : (m : Mode) → waiting m ≡ true → m ≡ Waiting (awaited m)
waits_for Suspended w = holds_fails w refl
waits_for Ready w = holds_fails w refl
waits_for (Waiting r) w = refl

pub names_awaited
    : (st : State) (e : Event) → refused_by 62 (stepped st e).answer ≡ true
    → (r : ℕ) × ((stepped st e).answer ≡ RefusedWaiting r) × ((task_at st (number_of e)).mode ≡ Waiting r) × (present st r ≡ true)
names_awaited st e by =
    ⊎_elim
    (λ f. absurd (let one = f.1 in omega arith))
    (λ q.
    let a = admitted 62 (omega arith) st e q.1 in
    let mode = (task_at st (number_of e)).mode in
    let waits : waiting mode ≡ true = sym (which st q.0 e a).1 ∙ by in (
      awaited mode,
      rw (stepped_sound st e q.0, q.1) refl,
      waits_for mode waits,
      ((sound_facts st).holds q.0).is_loose.wait (number_of e) (admitted_here st e a) waits,
    ))
    (refused_why st e 62 by)

pub others_leave
    : (st : State) → Shaped st → sound st ≡ true → (e : Event) (t h : ℕ) → kind_of st e ≡ group h → (h ≡ group_of st t → ⊥)
    → ((task_at (stepped st e).state t).mode ≡ (task_at st t).mode) × (unserved (stepped st e).state t ≡ unserved st t)
unfolding unserved not_running_for labels_of
others_leave st shaped s e t h k n =
    let l = labels_of st in
    let left = left_alone st shaped s e (group_of st t) h k n in
    let agree = left.1 in
    let mode = ap (λ x. x.mode) (agree.task_same.entry t refl) in
    let servers = all_ext places (not_running_for st t) (not_running_for (stepped st e).state t)
    (λ x m. ap not (for_same l (group_of st t) st (stepped st e).state agree (good_home l st left.0) (good_home l _ left.2) t refl x)) in
    (sym mode, rw (← mode, ← servers) refl)
