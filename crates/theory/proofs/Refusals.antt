-- A refusal gives the state back, and its number is that of a test, or 1; so it is one of those that are listed for the event. Assumes nothing.
use Rattle.theory.proofs.Kit.{◌≡◌, refl, sym, ◌∙◌, Bool, true, false, List, [], ◌∷◌, ◌⊎◌, inl, inr, ⊎_elim, Option, none, some, ℕ, eqb, eqb-true, eq-eqb}
use Rattle.laws.specs.Tests.{first_of}
use Rattle.laws.proofs.Cases.{split, none_some, holds_fails}
use Rattle.theory.proofs.Declared.{State, Event, Wake, Suspend, Dispatch, Preempt, Elapse, Recharge, Lock, Unlock}
use Rattle.model.specs.Sound.{sound}
use Rattle.model.specs.Step.{tests, state_after, outcome, stepped}
use Rattle.model.specs.Said.{is_refused}
use Rattle.model.proofs.Sound.{Loose, sound_facts}
use Rattle.theory.specs.Runs.{refused_by, numbers, numbers_of, rising_from, Among}
use Rattle.model.proofs.Grounds.{Grounds, grounds, unrefused_free}
use Rattle.theory.proofs.Outcomes.{stepped_sound, stepped_unsound, answered_not, tells_some, outcome_tells, goes_none}

-- why it was refused: the state is not sound, or a test says so
pub refused_why
    : (st : State) (e : Event) (n : ℕ) → refused_by n (stepped st e).answer ≡ true
    → ((sound st ≡ false) × (n ≡ 1)) ⊎ ((sound st ≡ true) × (first_of (tests st e) ≡ some n))
unfolding stepped
refused_why st e n h =
    split
    (sound st)
    (λ y. inr (y, tells_some n (first_of (tests st e)) (sym (outcome_tells n (first_of (tests st e)) st e) ∙ (rw (stepped_sound st e y) at h))))
    (λ f. inl (f, sym (eqb-true 1 n (rw f at h))))

-- whatever refuses gives the state back
outcome_back : (x : Option ℕ) (st : State) (e : Event) → is_refused (outcome x st e).answer ≡ true → (outcome x st e).state ≡ st
outcome_back none st e h = holds_fails h (answered_not st (state_after st e) e)
outcome_back (some n) st e h = refl

pub refused_same : (st : State) (e : Event) → is_refused (stepped st e).answer ≡ true → (stepped st e).state ≡ st
refused_same st e h =
    split
    (sound st)
    (λ y. rw (stepped_sound st e y) (outcome_back (first_of (tests st e)) st e (rw (stepped_sound st e y) at h)))
    (stepped_unsound st e)

-- an accepted event has its grounds, and the state after it is the one after the change and rule H
module _ (st : State) (e : Event) (s : sound st ≡ true) (goes : is_refused (stepped st e).answer ≡ false) where
  unrefused : first_of (tests st e) ≡ none
  unrefused = goes_none (first_of (tests st e)) st e (rw (stepped_sound st e s) at goes)

  pub goes_grounds : Grounds st e
  goes_grounds = grounds st e (unrefused_free st e unrefused)

  pub goes_after : (stepped st e).state ≡ state_after st e
  goes_after = rw (stepped_sound st e s, unrefused)

  pub goes_loose : Loose st
  goes_loose = ((sound_facts st).holds s).is_loose

-- the first test that holds has one of the tests' numbers
first_among : (ts : List (ℕ × Bool)) (n : ℕ) → first_of ts ≡ some n → Among n (numbers_of ts)
unfolding first_of Among numbers_of
first_among [] n h = none_some h
first_among (t ∷ ts) n h =
    split
    (eqb n t.0)
    (λ y. rw y tt)
    (λ m.
    rw m
    (split
    t.1
    (λ y. let q : some t.0 ≡ some n = rw y at h in let k : n ≡ t.0 = cc in absurd (holds_fails (eq-eqb n t.0 k) m))
    (λ f. first_among ts n (rw f at h))))

among_by : (n : ℕ) (ts : List (ℕ × Bool)) → (n ≡ 1) ⊎ (first_of ts ≡ some n) → Among n (1 ∷ numbers_of ts)
unfolding Among
among_by n ts (inl e) = rw (eq-eqb n 1 e) tt
among_by n ts (inr h) = split (eqb n 1) (λ y. rw y tt) (λ m. rw m (first_among ts n h))

-- rule 10.2: an event's tests, with that of soundness before them, have the listed numbers in their order, which ascends
pub listed_are : (st : State) (e : Event) → 1 ∷ numbers_of (tests st e) ≡ numbers e
unfolding numbers_of
listed_are st (Wake t) = refl
listed_are st (Suspend t) = refl
listed_are st (Dispatch s) = refl
listed_are st (Preempt s) = refl
listed_are st (Elapse n) = refl
listed_are st (Recharge s) = refl
listed_are st (Lock t r) = refl
listed_are st (Unlock t r) = refl

pub listed_rise : (e : Event) → rising_from 0 (numbers e) ≡ true
unfolding rising_from
listed_rise (Wake t) = refl
listed_rise (Suspend t) = refl
listed_rise (Dispatch s) = refl
listed_rise (Preempt s) = refl
listed_rise (Elapse n) = refl
listed_rise (Recharge s) = refl
listed_rise (Lock t r) = refl
listed_rise (Unlock t r) = refl

pub refused_listed : (st : State) (e : Event) (n : ℕ) → refused_by n (stepped st e).answer ≡ true → Among n (numbers e)
refused_listed st e n h =
    rw (← (listed_are st e)) (among_by n (tests st e) (⊎_elim (λ f. inl f.1) (λ r. inr r.1) (refused_why st e n h)))
