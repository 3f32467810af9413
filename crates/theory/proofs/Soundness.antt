-- Soundness is kept, and what it says over all runs. An accepted event's change is calm (the laws of Serving, Locking and Passing, put
-- together by the grounds that its tests leave), rule H makes a calm state loose, and processors are counted by themselves (Processors.antt). So
-- an accepted event keeps a state loose and shaped (`after_loose`), a step keeps it sound (`kept`), and every state that a list of events reaches from
-- a fresh table is sound (`sound_always`). From that: refusal 1 never comes, a task executes in one server and does where a Running server serves it, a
-- resource has one owner, and waiting never goes in a circle. Assumes nothing.
use Rattle.theory.proofs.Kit.{◌≡◌, refl, sym, ◌∙◌, ap, true, true≢false, false, List, [], ◌∷◌, ℕ, arith, eqb, eqb-true, eqb-false, eq-eqb, suc}
use Rattle.laws.specs.Tests.{first_of, bit}
use Rattle.laws.specs.Loops.{count_to}
use Rattle.laws.proofs.Cases.{split, holds_fails, unheld_fails, and_left, and_right, and_both}
use Rattle.laws.proofs.Count.{count_zero, count_but_one}
use Rattle.laws.proofs.Standing.{stands_points}
use Rattle.laws.specs.Links.{Leads}
use Rattle.reordering.specs.Run.{after, log, Each, Never}
use Rattle.theory.proofs.Declared.{TaskNo, State, Event, Wake, Suspend, Dispatch, Preempt, Elapse, Recharge, Lock, Unlock, Table}
use Rattle.model.specs.State.{places, resource_at, owned, owner_no, served, here, running_at, running_for, executor_of, executing, executes, next}
use Rattle.model.specs.Shape.{Shaped}
use Rattle.model.specs.Events.{locked, unlocked, changed, acting, passed}
use Rattle.model.specs.Step.{tests, state_after, stepped, move}
use Rattle.model.specs.Sound.{sound}
use Rattle.model.specs.Fresh.{fresh_state}
use Rattle.model.proofs.Chain.{here_below, open_unclosed}
use Rattle.model.proofs.Sound.{Loose, Sound, sound_facts}
use Rattle.model.proofs.Room.{stack_room, stack_held, loose_stacks}
use Rattle.model.proofs.Grounds.{Grounds, grounds, unrefused_free}
use Rattle.model.proofs.RuleH.{serving_below}
use Rattle.fresh.proofs.Fresh.{fresh_sound, fresh_shaped}
use Rattle.theory.specs.Runs.{Accepted, reached, refused_by, executes_in, Holds, answers}
use Rattle.theory.proofs.Frames.{settled_shaped, changed_shaped}
use Rattle.theory.proofs.Calm.{Calm, loose_calm, settled_loose}
use Rattle.theory.proofs.Readings.{for_running, running_for_lem, executes_by}
use Rattle.theory.proofs.Executing.{runs_ready, runs_for_lem, runs_served, served_executes_lem, Way}
use Rattle.theory.proofs.Serving.{wake_calm, sleep_calm, dispatch_calm, preempt_calm, recharge_calm, elapse_calm}
use Rattle.theory.proofs.Locking.{grant_calm, free_calm, wait_calm, locked_is}
use Rattle.theory.proofs.Passing.{pass_calm}
use Rattle.theory.proofs.Outcomes.{stepped_sound, outcome_has, outcome_not, no_test_1}
use Rattle.theory.proofs.Processors.{seated_after}

lock_calm : (st : State) (t : TaskNo) (r : ℕ) → Way st (Lock t r) → Calm (locked st t.0 r)
unfolding locked
lock_calm st t r w =
    let g = w.ground in
    split
    (owned (resource_at st r).owner)
    (λ y. rw (locked_is st t.0 r y w) (wait_calm st t.0 r y w))
    (λ n.
    let none-waits = w.facts.unqueued r g.1 (λ o. true≢false (sym o ∙ n)) in
    let room = stack_room st w.facts t.0 r g.0 g.1 g.4 in
    rw n (grant_calm st w.shaped (loose_calm st w.facts) t.0 r g.0 g.1 none-waits g.2 room n))

unlock_calm : (st : State) (t : TaskNo) (r : ℕ) → Way st (Unlock t r) → Calm (unlocked st t.0 r)
unfolding unlocked passed
unlock_calm st t r w =
    let g = w.ground in
    split
    (eqb (resource_at st r).waiting 0)
    (λ y.
    let deep = stack_held st w.facts t.0 r g.0 g.1 g.3 in
    rw y (free_calm st w.shaped (loose_calm st w.facts) t.0 r g.0 g.1 (eqb-true _ 0 y) g.3 g.4 deep))
    (λ n. rw n (pass_calm st t.0 r (omega (arith, eqb-false (resource_at st r).waiting 0 n)) w))

module _ (st : State) (shaped : Shaped st) (facts : Loose st) where
  abbrev c : Calm st
  c = loose_calm st facts

  changed_calm : (e : Event) → Grounds st e → Calm (changed st e)
  changed_calm (Wake t) g = wake_calm st shaped c t.0 g.0 g.1
  changed_calm (Suspend t) g = sleep_calm st shaped c t.0 g.0 (runs_ready st facts t.0 g.1)
  changed_calm (Dispatch s) g = dispatch_calm st shaped c s.0 g.0 g.1
  changed_calm (Preempt s) g = preempt_calm st shaped c s.0 g.0 g.1
  changed_calm (Elapse n) g = elapse_calm st shaped c n g.0 g.1 g.2
  changed_calm (Recharge s) g = recharge_calm st shaped c s.0 g.0
  changed_calm (Lock t r) g = lock_calm st t r (record { shaped = shaped; facts = facts; ground = g })
  changed_calm (Unlock t r) g = unlock_calm st t r (record { shaped = shaped; facts = facts; ground = g })

  -- an event that no test refuses, with rule H
  pub after_loose : (e : Event) → Grounds st e → Shaped (state_after st e) × Loose (state_after st e)
  unfolding state_after
  after_loose e g =
      let d = changed_shaped st shaped e in
      (settled_shaped st (changed st e) (acting st e) d, settled_loose st (changed st e) (acting st e) d (changed_calm e g))

-- soundness is kept by every event,
pub kept : (st : State) (e : Event) → Shaped st → sound st ≡ true → Shaped (stepped st e).state × (sound (stepped st e).state ≡ true)
kept st e shaped s =
    rw (stepped_sound st e s)
    (outcome_has (λ x. Shaped x × (sound x ≡ true)) (first_of (tests st e)) st e (shaped, s)
    (λ h.
    let f : Sound st = (sound_facts st).holds s in
    let g = grounds st e (unrefused_free st e h) in
    let a = after_loose st shaped f.is_loose e g in
    (a.0, (sound_facts (state_after st e)).test (record { is_loose = a.1; is_seated = seated_after st e f.is_seated g h }))))

always : (st : State) → Shaped st → sound st ≡ true → (es : List Event) → sound (after move st es) ≡ true
unfolding after
always st shaped s [] = s
always st shaped s (e ∷ es) = let k = kept st e shaped s in always (stepped st e).state k.0 k.1 es

-- and so holds after every list from fresh
pub sound_always : (tb : Table) → Accepted tb → (es : List Event) → sound (reached tb es) ≡ true
sound_always tb a es = always (fresh_state tb) (fresh_shaped tb) (fresh_sound tb a) es

-- no event of such a list is refused for an unsound state
never : (st : State) → Shaped st → sound st ≡ true → (es : List Event) → Never (refused_by 1) (log move st es)
unfolding log Each
never st shaped s [] = tt
never st shaped s (e ∷ es) =
    let k = kept st e shaped s in
    (rw (stepped_sound st e s) (outcome_not 1 (first_of (tests st e)) st e (no_test_1 st e)), never (stepped st e).state k.0 k.1 es)

pub never_unsound : (tb : Table) → Accepted tb → (es : List Event) → Never (refused_by 1) (answers tb es)
never_unsound tb a es = never (fresh_state tb) (fresh_shaped tb) (fresh_sound tb a) es

-- who executes t is the server that t has
executes_in_lem : (st : State) (t s : ℕ) → executes_in st t s ≡ true → executor_of st t ≡ s
unfolding executes
executes_in_lem st t s h =
    let e : served st s ≡ t = eqb-true _ t (and_right (executes st s) _ h) in
    ap (executor_of st) (sym e) ∙ eqb-true _ s (and_right (running_at st s) _ (and_left (executes st s) _ h))

pub one_server
    : (tb : Table) → Accepted tb → (es : List Event) (t s u : ℕ) →
    executes_in (reached tb es) t s ≡ true → executes_in (reached tb es) t u ≡ true → s ≡ u
one_server tb a es t s u p q = sym (executes_in_lem (reached tb es) t s p) ∙ executes_in_lem (reached tb es) t u q

-- waiting never goes in a circle
facts_always : (tb : Table) → Accepted tb → (es : List Event) → Loose (reached tb es)
facts_always tb a es = ((sound_facts (reached tb es)).holds (sound_always tb a es)).is_loose

pub no_cycle : (tb : Table) → Accepted tb → (es : List Event) (t j : ℕ) → Leads places (next (reached tb es)) (suc j) t t → ⊥
no_cycle tb a es t j = open_unclosed (reached tb es) (facts_always tb a es).opens t j

-- at most one task owns a resource
module _ (st : State) (facts : Loose st) where
  holder_owns : (t r : ℕ) → here st t ≡ true → Holds st t r → owner_no (resource_at st r).owner ≡ t
  holder_owns t r u h = rw (← h.there) (stands_points (loose_stacks st facts) (here_below st) t h.place u h.within)

  pub executes_for : (t s : ℕ) → executes_in st t s ≡ true → running_for st t s ≡ true
  unfolding executes
  executes_for t s h = running_for_lem st t s (and_left (running_at st s) _ (and_left (executes st s) _ h)) (eqb-true _ t (and_right (executes st s) _ h))

  executor_executes : (t : ℕ) → executing st t ≡ true → executes_in st t (executor_of st t) ≡ true
  executor_executes t runs =
      let s = executor_of st t in
      let e = runs_served st facts t runs in
      and_both (executes st s) _ (executes_by st s (for_running st t s (runs_for_lem st facts t runs)) (ap (executor_of st) e)) (eq-eqb (served st s) t e)

  -- one server executes a task that executes, none one that does not
  pub servers_count : (t : ℕ) → here st t ≡ true → count_to places (executes_in st t) ≡ bit (executing st t)
  servers_count t u =
      split
      (executing st t)
      (λ y.
      let s = executor_of st t in
      let in-it = executor_executes t y in
      let k = count_but_one places s (executes_in st t) (λ j. false) (serving_below st t s (executes_for t s in-it))
      (λ j l n. unheld_fails _ (λ h. n (sym (executes_in_lem st t j h)))) in
      omega (arith, k, ap bit y, ap bit in-it, count_zero places (λ j. false) (λ i l. refl)))
      (λ n.
      count_zero places (executes_in st t)
      (λ s l. unheld_fails _ (λ h. holds_fails (served_executes_lem st facts t s u (executes_for t s h)) n))
      ∙ sym (ap bit n))

pub one_owner
    : (tb : Table) → Accepted tb → (es : List Event) (t u r : ℕ) →
    here (reached tb es) t ≡ true → here (reached tb es) u ≡ true →
    Holds (reached tb es) t r → Holds (reached tb es) u r → t ≡ u
one_owner tb a es t u r p q g h =
    let f = facts_always tb a es in
    sym (holder_owns (reached tb es) f t r p g) ∙ holder_owns (reached tb es) f u r q h

pub servers_that_execute
    : (tb : Table) → Accepted tb → (es : List Event) (t : ℕ) →
    here (reached tb es) t ≡ true →
    (count_to places (executes_in (reached tb es) t) ≡ bit (executing (reached tb es) t)) ×
    ((s : ℕ) → running_for (reached tb es) t s ≡ true → executing (reached tb es) t ≡ true)
servers_that_execute tb a es t u =
    let f = facts_always tb a es in
    (servers_count (reached tb es) f t u, λ s h. served_executes_lem (reached tb es) f t s u h)
