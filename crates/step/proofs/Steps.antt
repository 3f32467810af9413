-- What a step is on a state that is sound and on one that is not; that rule H and the answer find in arrays what they ask of the states.
-- Assumes nothing.
use mathlib.Core.Path.{◌≡◌, refl, sym, ◌∙◌, ap, ap₂}
use mathlib.Core.Bool.{true, false}
use mathlib.Core.Option.{none, some}
use Prim.Native.Nat.{ℕ}
use lib.Dec.{eqb}
use lib.ListN.{set}
use Rattle.laws.specs.Tests.{first_of}
use Rattle.laws.proofs.Cases.{split}
use Rattle.model.specs.declared.Mode.TheVariants.{Ready}
use Rattle.model.specs.declared.State.{State}
use Rattle.model.specs.declared.Event.{Event}
use Rattle.model.specs.declared.Event.TheVariants.{Wake, Suspend, Dispatch, Preempt, Elapse, Recharge, Lock, Unlock}
use Rattle.model.specs.declared.Outcome.{Outcome}
use Rattle.model.specs.declared.Answer.{Answer}
use Rattle.model.specs.declared.Answer.TheVariants.{Refused}
use Rattle.model.specs.State.{no_task, task_at, resource_at, suspended, owned, executor_number, served, executor_of}
use Rattle.model.specs.Sound.{sound}
use Rattle.model.specs.RuleH.{settled}
use Rattle.model.specs.Events.{each_server, woken, slept, rested, phased, recharged, granted, joined, rested_end, locked, freed, passed, unlocked, with_mode, pushed, popped, first_waiter, changed, acting, number_of}
use Rattle.model.specs.Step.{tests, state_after, refusing, outcome, attempted, stepped}
use Rattle.model.specs.Said.{said}
use Rattle.model.proofs.RuleH.{settled_served}
use Rattle.chain.specs.Arrays.{ends_of}
use Rattle.chain.proofs.Arrays.{ends_same}
use Rattle.settle.proofs.Settled.{settled_before}
use Rattle.events.specs.declared.Change.{Change}
use Rattle.events.specs.Changes.{Clear, told, change_of}
use Rattle.events.proofs.Changes.{kept_under, elapsed_keeps}
use Rattle.step.specs.Computed.{answer_by, Within}
use Rattle.step.proofs.Answers.{within, answer_is}

-- what `step` promises of its result
abbrev pub Met : State → Event → Outcome → Type 0
Met st e o = record { value : o ≡ stepped st e; says : said o.answer ≡ said (stepped st e).answer }

met : (st : State) (e : Event) (o : Outcome) → o ≡ stepped st e → Met st e o
met st e o q = record { value = q; says = ap (λ (x : Outcome). said x.answer) q }

pub step_unsound : (st : State) (e : Event) (o : Outcome) → sound st ≡ false → o ≡ record { answer = Refused 1; state = st } → Met st e o
unfolding stepped
step_unsound st e o n q = met st e o (q ∙ rw n)

pub step_sound : (st : State) (e : Event) (o : Outcome) → sound st ≡ true → o ≡ attempted st e → Met st e o
unfolding stepped
step_sound st e o h q = met st e o (q ∙ rw h)

pub attempt_refused
    : (st : State) (e : Event) (a : Answer) (n : ℕ)
    → first_of (tests st e) ≡ some n
    → a ≡ refusing (task_at st (number_of e)).mode n
    → record { answer = a; state = st } ≡ attempted st e
unfolding attempted
attempt_refused st e a n h q = (λ i. record { answer = q i; state = st }) ∙ ap (λ x. outcome x st e) (sym h)

pub attempt_taken : (st : State) (e : Event) (o : Outcome) → Clear st e → o ≡ outcome none st e → o ≡ attempted st e
unfolding attempted
attempt_taken st e o c q = q ∙ ap (λ x. outcome x st e) (sym c.unrefused)

-- no event's own change says anew where a task executes
changed_executors : (st : State) (e : Event) (i : ℕ) → executor_of (changed st e) i ≡ executor_of st i
unfolding executor_of woken slept rested each_server phased recharged locked granted joined rested_end unlocked freed passed
changed_executors st (Wake t) i = kept_under (λ k. executor_number k.runs) st.task t.0 i _ no_task refl
changed_executors st (Suspend t) i = kept_under (λ k. executor_number k.runs) st.task t.0 i _ no_task refl
changed_executors st (Dispatch s) i = refl
changed_executors st (Preempt s) i = refl
changed_executors st (Elapse n) i = ap (λ k. executor_number k.1) (elapsed_keeps st n i)
changed_executors st (Recharge s) i = refl
changed_executors st (Lock t r) i =
    split
    (owned (resource_at st r).owner)
    (λ y.
    rw y
    (split
    (suspended (task_at (joined st t.0 r) (served (joined st t.0 r) t.0)).mode)
    (λ z. rw z (kept_under (λ k. executor_number k.runs) st.task t.0 i _ no_task refl))
    (λ n. rw n (kept_under (λ k. executor_number k.runs) st.task t.0 i _ no_task refl))))
    (λ n. rw n (kept_under (λ k. executor_number k.runs) st.task t.0 i _ no_task refl))
changed_executors st (Unlock t r) i =
    let once = kept_under (λ k. executor_number k.runs) st.task t.0 in
    let shorter = popped (task_at st t.0) in
    let heir = first_waiter (resource_at st r) in
    let waiter = pushed r (with_mode Ready (task_at st heir)) in
    split
    (eqb (resource_at st r).waiting 0)
    (λ y. rw y (once i shorter no_task refl))
    (λ n.
    rw n
    (kept_under (λ k. executor_number k.runs) (set st.task t.0 shorter) heir i waiter no_task (sym (once heir shorter no_task refl))
    ∙ once i shorter no_task refl))

-- the change, the state after rule H and the answer, as the code has them
module _ (st : State) (e : Event) (x : Change) (made : x ≡ change_of st e) (clear : Clear st e) where
  pub change_ends : x.ends ≡ ends_of x.state
  unfolding change_of
  change_ends = ap (λ y. y.ends) made ∙ ap (λ y. ends_of y.state) (sym made)

  module _ (after : State) (h : after ≡ settled x.state x.acting.0 x.state) where
    after_is : after ≡ state_after st e
    unfolding state_after change_of
    after_is =
        h ∙ ap (λ y. settled y.state y.acting.0 y.state) made
        ∙ settled_before st (changed st e) (acting st e) (λ t. sym (changed_executors st e t))

    ends_are : x.ends ≡ ends_of (state_after st e)
    unfolding state_after change_of
    ends_are = ap (λ y. y.ends) made ∙ sym (ends_same _ _ (settled_served st (changed st e) (acting st e)))

    pub answer_within : Within x.ends e
    answer_within = within st (state_after st e) e x.ends clear ends_are

    pub taken_is : (w : Answer) → w ≡ answer_by x.answer after.task x.ends e → record { answer = w; state = after } ≡ outcome none st e
    unfolding change_of
    taken_is w q =
        let same = q ∙ ap (λ y. answer_by y.answer after.task x.ends e) made
        ∙ ap₂ (λ (u : State) ends. answer_by (told st e) u.task ends e) after_is ends_are
        ∙ answer_is st e clear in
        λ i. record { answer = same i; state = after_is i }
