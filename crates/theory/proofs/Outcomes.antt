-- One step by its outcome: on a sound state it attempts the event, on another it changes nothing; what a refusal and an acceptance say. A law on the
-- state after an accepted event is one on steps by `stepped_has`; so entries past the counts stay (`past_kept`), in a state of any shape, because no
-- accepted event reaches them. No test has number 1 and no accepted answer refuses, so refusal 1 means an unsound state and nothing else.
-- Leans on Frames.antt. Assumes nothing.
use Rattle.theory.proofs.Kit.{◌≡◌, refl, sym, ap, ◌∙◌, Bool, true, false, Option, none, some, ⊎_elim, ℕ, eqb, eqb-true, ne_eqb}
use Rattle.laws.specs.Tests.{first_of, without}
use Rattle.laws.proofs.Cases.{split, holds_fails, if_no, first_without, without_never}
use Rattle.laws.proofs.Set.{each_cases}
use Rattle.theory.proofs.Declared.{Mode, State, Event, Wake, Suspend, Dispatch, Preempt, Elapse, Recharge, Lock, Unlock}
use Rattle.model.specs.State.{places, no_task, server_at, task_at, resource_at, here, present, owned, executes}
use Rattle.model.specs.Sound.{sound}
use Rattle.model.specs.RuleH.{settled_task, settled}
use Rattle.model.specs.Events.{changed, acting, number_of}
use Rattle.model.specs.Step.{tests, answered, state_after, refusing, outcome, attempted, stepped, free}
use Rattle.model.specs.Said.{is_refused}
use Rattle.model.proofs.Grounds.{Grounds, grounds, unrefused_free}
use Rattle.model.proofs.Sound.{Loose, sound_facts}
use Rattle.theory.specs.Runs.{refused_by}
use Rattle.theory.proofs.Frames.{heads_here, heads_kept, server_after, task_after, resource_after, server_here, task_here, resource_here}

-- a step on a sound state attempts the event,
pub stepped_sound : (st : State) (e : Event) → sound st ≡ true → stepped st e ≡ outcome (first_of (tests st e)) st e
unfolding stepped attempted
stepped_sound st e s = rw s

-- and does what `free` does, unless it is refused for want of a processor
pub stepped_free : (st : State) (e : Event) → sound st ≡ true → (first_of (tests st e) ≡ some 8 → ⊥) → stepped st e ≡ free st e
unfolding free
stepped_free st e s n = stepped_sound st e s ∙ ap (λ x. outcome x st e) (sym (first_without 8 (tests st e) n))

pub stepped_unsound : (st : State) (e : Event) → sound st ≡ false → (stepped st e).state ≡ st
unfolding stepped
stepped_unsound st e n = rw n

-- an outcome has what the state before has, and the state after where nothing refuses; so has a step
pub outcome_has : (P : State → Type 0) (x : Option ℕ) (st : State) (e : Event) → P st → (x ≡ none → P (state_after st e)) → P (outcome x st e).state
outcome_has P none st e before after = after refl
outcome_has P (some n) st e before after = before

pub stepped_has
    : (P : State → Type 0) (st : State) (e : Event) → P st → (sound st ≡ true → first_of (tests st e) ≡ none → P (state_after st e)) → P (stepped st e).state
stepped_has P st e before after =
    split
    (sound st)
    (λ y. rw (stepped_sound st e y) (outcome_has P (first_of (tests st e)) st e before (after y)))
    (λ n. rw (stepped_unsound st e n) before)

-- an answer that refuses by a number does so, and by that one
pub refusing_refuses : (mode : Mode) (n : ℕ) → is_refused (refusing mode n) ≡ true
refusing_refuses mode n = split (eqb n 62) (λ y. rw y) (λ f. rw f)

refusing_by : (mode : Mode) (n m : ℕ) → refused_by m (refusing mode n) ≡ eqb n m
refusing_by mode n m = split (eqb n 62) (λ y. rw y (rw (eqb-true n 62 y) refl)) (λ f. rw f)

-- an accepted event passed every test
pub goes_none : (x : Option ℕ) (st : State) (e : Event) → is_refused (outcome x st e).answer ≡ false → x ≡ none
goes_none none st e g = refl
goes_none (some n) st e g = holds_fails (refusing_refuses (task_at st (number_of e)).mode n) g

-- no test has number 1,
pub no_test_1 : (st : State) (e : Event) → first_of (tests st e) ≡ some 1 → ⊥
unfolding without
no_test_1 st (Wake t) h = without_never 1 (tests st (Wake t)) h
no_test_1 st (Suspend t) h = without_never 1 (tests st (Suspend t)) h
no_test_1 st (Dispatch s) h = without_never 1 (tests st (Dispatch s)) h
no_test_1 st (Preempt s) h = without_never 1 (tests st (Preempt s)) h
no_test_1 st (Elapse n) h = without_never 1 (tests st (Elapse n)) h
no_test_1 st (Recharge s) h = without_never 1 (tests st (Recharge s)) h
no_test_1 st (Lock t r) h = without_never 1 (tests st (Lock t r)) h
no_test_1 st (Unlock t r) h = without_never 1 (tests st (Unlock t r)) h

-- and an accepted event's answer refuses nothing
pub answered_not : (st next : State) (e : Event) → is_refused (answered st next e) ≡ false
answered_not st next (Wake t) = refl
answered_not st next (Suspend t) = refl
answered_not st next (Dispatch s) = split (executes next s.0) (λ y. rw y) (λ n. rw n)
answered_not st next (Preempt s) = refl
answered_not st next (Elapse n) = refl
answered_not st next (Recharge s) = refl
answered_not st next (Lock t r) = split (owned (resource_at st r).owner) (λ y. rw y) (λ n. rw n)
answered_not st next (Unlock t r) = split (eqb (resource_at st r).waiting 0) (λ y. rw y) (λ n. rw n)

-- whether m is the number that tests tell
abbrev pub tells : ℕ → Option ℕ → Bool
tells m none = false
tells m (some n) = eqb n m

pub tells_not : (m : ℕ) (x : Option ℕ) → (x ≡ some m → ⊥) → tells m x ≡ false
tells_not m none n = refl
tells_not m (some k) n = ne_eqb k m (λ q. n (ap some q))

pub tells_some : (m : ℕ) (x : Option ℕ) → tells m x ≡ true → x ≡ some m
tells_some m none h = holds_fails h refl
tells_some m (some k) h = ap some (eqb-true k m h)

-- so an outcome is refused m exactly where the tests tell m
pub outcome_tells : (m : ℕ) (x : Option ℕ) (st : State) (e : Event) → refused_by m (outcome x st e).answer ≡ tells m x
outcome_tells m none st e = rw (answered_not st (state_after st e) e)
outcome_tells m (some n) st e = refusing_by (task_at st (number_of e)).mode n m

pub outcome_not : (m : ℕ) (x : Option ℕ) (st : State) (e : Event) → (x ≡ some m → ⊥) → refused_by m (outcome x st e).answer ≡ false
outcome_not m x st e n = outcome_tells m x st e ∙ tells_not m x n

-- what lies past the counts stays
module _ (st : State) (i : ℕ) where
  abbrev Stays : State → Type 0
  Stays x =
      (here st i ≡ false → (server_at x i ≡ server_at st i) × (task_at x i ≡ task_at st i)) ×
      (present st i ≡ false → resource_at x i ≡ resource_at st i)

  settled_past : (old now : State) (acting : ℕ) → here now i ≡ false → task_at (settled old acting now) i ≡ task_at now i
  unfolding settled settled_task
  settled_past old now acting p = ⊎_elim (λ c. c ∙ if_no _ _ _ p) (λ c. c) (each_cases places _ now.task no_task i)

  after_past : Loose st → (e : Event) → Grounds st e → Stays (state_after st e)
  unfolding state_after settled
  after_past facts e g =
      let counts = heads_kept st e in (
        λ p. (
          ⊎_elim (λ q. q) (λ k. holds_fails (server_here st e i g k.0) p) (server_after st e i),
          settled_past st (changed st e) (acting st e) (heads_here (changed st e) st counts.1 counts.2 i ∙ p)
              ∙ ⊎_elim (λ q. q) (λ k. holds_fails (task_here st facts e i g k) p) (task_after st e i),
        ),
        λ p. ⊎_elim (λ q. q) (λ k. holds_fails (resource_here st e i g k) p) (resource_after st e i),
      )

  pub past_kept : (e : Event) → Stays (stepped st e).state
  past_kept e =
      stepped_has Stays st e (λ p. (refl, refl), λ p. refl) (λ y h. after_past ((sound_facts st).holds y).is_loose e (grounds st e (unrefused_free st e h)))
