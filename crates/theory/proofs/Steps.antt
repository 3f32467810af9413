-- The one way that the rules of the paper are proved: an event that no test refuses, in a sound state (`Way`). Servers, resources and tasks after it are
-- those of the event's own change, but for where a task executes; who executes is rule H. And where nobody comes to wait or stops waiting (`Quiet`)
-- every server serves the task that it served: the six events of tasks and servers make states that are alike to chains, a grant and a release with
-- nobody waiting change no link. Assumes nothing.
use Rattle.theory.proofs.Kit.{◌≡◌, refl, sym, ◌∙◌, true, false, ℕ, ◌<◌, length, ap, eq-eqb, true≢false}
use Rattle.laws.proofs.Cases.{split, holds_fails, unheld_fails}
use Rattle.laws.proofs.Set.{set_at_lem}
use Rattle.theory.proofs.Declared.{Runs, None, Some, Task, State, Event, Suspended, Ready, Wake, Suspend, Dispatch, Preempt, Elapse, Recharge, Lock, Unlock}
use Rattle.model.specs.State.{nobody, no_task, server_at, task_at, resource_at, here, present, running, placed, executor_number, served, running_at, running_for, executor_of, executing, waiting, awaited, owned}
use Rattle.model.specs.Shape.{Shaped}
use Rattle.model.specs.RuleH.{budget_at, chosen, settled_task, settled}
use Rattle.model.specs.Events.{changed, acting, woken_server, woken, rested_server, rested, slept, phased, elapsed, recharged, granted, freed, locked, unlocked}
use Rattle.model.specs.Step.{state_after, stepped}
use Rattle.model.proofs.Chain.{here_below}
use Rattle.model.proofs.Chosen.{chosen_alone}
use Rattle.model.proofs.Grounds.{Grounds}
use Rattle.model.proofs.Sound.{Loose}
use Rattle.model.proofs.RuleH.{settled_here, settled_for, settled_executor, settled_chooses, settled_served}
use Rattle.theory.specs.Rules.{Proper, TaskIs, Rest, EndsStay, ExecutorsStay, ExecutesNowhere, Nothing, RuleH}
use Rattle.theory.proofs.Frames.{heads_here, heads_present, heads_kept}
use Rattle.theory.proofs.Executing.{runs_for_lem, now_here, inside, rule_h, Way, served_executes_lem, runs_ready}
use Rattle.theory.proofs.Refusals.{goes_grounds, goes_after, goes_loose}
use Rattle.theory.proofs.Readings.{for_here}
use Rattle.theory.proofs.Calm.{alike_served, Calm, loose_calm}
use Rattle.theory.proofs.Serving.{put_alike, stirred_alike, elapsed_alike}
use Rattle.theory.proofs.Locking.{quiet_served}
use Rattle.model.proofs.Variants.{suspended_is}

unplaced : (x : Runs) → placed x ≡ false → executor_number x ≡ nobody
unplaced None e = refl
unplaced (Some s) e = holds_fails refl e

-- a task in use that does not execute has no executor
pub executor_none : (st : State) (t : ℕ) → here st t ≡ true → executing st t ≡ false → executor_of st t ≡ nobody
unfolding executing executor_of
executor_none st t u n = unplaced (task_at st t).runs (rw u at n)

pub nobody_serves : (st : State) (t : ℕ) → running_for st t nobody ≡ false
unfolding running_for running_at here
nobody_serves st t = refl

module _ (st : State) (e : Event) where
  pub after_here : (i : ℕ) → here (state_after st e) i ≡ here st i
  unfolding state_after
  after_here i =
      settled_here st (changed st e) (acting st e) i ∙ heads_here (changed st e) st (heads_kept st e).1 (heads_kept st e).2 i

  pub after_present : (r : ℕ) → present (state_after st e) r ≡ present st r
  unfolding state_after settled present
  after_present r = heads_present (changed st e) st (heads_kept st e).1 (heads_kept st e).2 r

  pub after_server : (s : ℕ) → server_at (state_after st e) s ≡ server_at (changed st e) s
  unfolding state_after settled
  after_server s = refl

  pub after_resource : (r : ℕ) → resource_at (state_after st e) r ≡ resource_at (changed st e) r
  unfolding state_after settled
  after_resource r = refl

  pub after_running
      : (s : ℕ) → running (server_at (state_after st e) s).phase ≡ running (server_at st s).phase
      → running_at (state_after st e) s ≡ running_at st s
  unfolding running_at
  after_running s p = rw (after_here s, p)

-- what an accepted event's way shows of the state after the change and rule H is so after the step
pub properly : (st : State) (e : Event) → Proper st e → (P : State → Type 0) → (Way st e → P (state_after st e)) → P (stepped st e).state
properly st e p P shows =
    rw (goes_after st e p.is_sound p.goes)
    (shows (record { shaped = p.shaped; facts = goes_loose st e p.is_sound p.goes; ground = goes_grounds st e p.is_sound p.goes }))

-- Ends that stay: nobody comes to wait, and nobody stops waiting
abbrev pub Quiet : State → Event → Type 0
Quiet st (Wake t) = Unit {0}
Quiet st (Suspend t) = Unit {0}
Quiet st (Dispatch s) = Unit {0}
Quiet st (Preempt s) = Unit {0}
Quiet st (Elapse n) = Unit {0}
Quiet st (Recharge s) = Unit {0}
Quiet st (Lock t r) = owned (resource_at st r).owner ≡ false
Quiet st (Unlock t r) = (resource_at st r).waiting ≡ 0

module _ (st : State) (shaped : Shaped st) (facts : Loose st) where
  abbrev c : Calm st
  c = loose_calm st facts

  served_changed : (e : Event) → Grounds st e → Quiet st e → (s : ℕ) → served (changed st e) s ≡ served st s
  unfolding woken slept rested phased recharged locked unlocked granted freed
  served_changed (Wake t) g q =
      let m = suspended_is (task_at st t.0).mode g.1 in
      alike_served (woken st t.0) st (stirred_alike st shaped c t.0 Ready (woken_server st t.0) g.0 (sym (ap awaited m)) (sym (ap waiting m)))
  served_changed (Suspend t) g q =
      let m = runs_ready st facts t.0 g.1 in
      alike_served (slept st t.0) st (stirred_alike st shaped c t.0 Suspended (rested_server st t.0) g.0 (sym (ap awaited m)) (sym (ap waiting m)))
  served_changed (Dispatch s) g q = alike_served (changed st (Dispatch s)) st (put_alike st shaped c s.0 _ g.0)
  served_changed (Preempt s) g q = alike_served (changed st (Preempt s)) st (put_alike st shaped c s.0 _ g.0)
  served_changed (Elapse n) g q = alike_served (elapsed st n) st (elapsed_alike st shaped c n g.0 g.1 g.2)
  served_changed (Recharge s) g q = alike_served (changed st (Recharge s)) st (put_alike st shaped c s.0 _ g.0)
  served_changed (Lock t r) g q =
      rw q
      (quiet_served st shaped c t.0 r g.0 g.1 (facts.unqueued r g.1 (λ o. true≢false (sym o ∙ q))) _ _ refl refl refl refl refl)
  served_changed (Unlock t r) g q = rw (eq-eqb _ 0 q) (quiet_served st shaped c t.0 r g.0 g.1 q _ _ refl refl refl refl refl)

module _ (st : State) (e : Event) (w : Way st e) where
  abbrev now : State
  now = changed st e

  abbrev after : State
  after = state_after st e

  -- a task is what the change makes of it, but for where it executes
  pub task_is : (t : ℕ) → here st t ≡ true → (k : Task) → task_at now t ≡ k → TaskIs after t k
  unfolding state_after settled settled_task
  task_is t u k is =
      let h : here now t ≡ true = now_here st e w.shaped t u in
      let l : t < length now.task = inside st e w.shaped t u in
      set_at_lem _ t _ now.task no_task (here_below st t u) l
      ∙ rw (h, is, settled_executor st now (acting st e) t h l)

  -- the rest stays where the change leaves it
  pub rest_by
      : (clock : ℕ) (servers tasks resources : ℕ → Type 0)
      → now.clock ≡ clock
      → ((s : ℕ) → here st s ≡ true → (servers s → ⊥) → server_at now s ≡ server_at st s)
      → ((t : ℕ) → here st t ≡ true → (tasks t → ⊥) → task_at now t ≡ task_at st t)
      → ((r : ℕ) → present st r ≡ true → (resources r → ⊥) → resource_at now r ≡ resource_at st r)
      → Rest st after clock servers tasks resources
  unfolding state_after settled
  rest_by clock servers tasks resources c s t r = record {
    processor_count = (heads_kept st e).0;
    task_count = (heads_kept st e).1;
    resource_count = (heads_kept st e).2;
    time = c;
    server = s;
    task = λ i u n. task_is i u (task_at st i) (t i u n);
    resource = r;
  }

  -- the six events of tasks and servers, a grant and a release with nobody waiting leave every chain end
  pub ends_stay : Quiet st e → EndsStay st after
  unfolding state_after
  ends_stay q s u = settled_served st now (acting st e) s ∙ served_changed st w.shaped w.facts e w.ground q s

  -- a server that runs if it ran, with the end that it had, runs for whom it ran
  pub same_for
      : (t s : ℕ) → served after s ≡ served st s → running (server_at after s).phase ≡ running (server_at st s).phase
      → running_for after t s ≡ running_for st t s
  unfolding running_for
  same_for t s ends p = rw (after_running st e s p, ends)

  -- who executes
  module _ (t : ℕ) (used : here st t ≡ true) where
    pub by_rule_h : RuleH st after (acting st e) t
    by_rule_h = rule_h st e w.shaped t used

    pub executor_chosen : running_for after t (executor_of st t) ≡ false → running_for after t (acting st e) ≡ false → executor_of after t ≡ chosen after t
    unfolding state_after settled budget_at
    executor_chosen f h =
        let still = settled_for st now (acting st e) t in
        settled_chooses st now (acting st e) t
        (now_here st e w.shaped t used)
        (inside st e w.shaped t used)
        (sym (still _) ∙ f)
        (sym (still _) ∙ h)
        ∙ sym (chosen_alone after now t t (λ s l. still s) (λ s l r. refl))

    -- where no Running server serves it, nowhere
    pub executor_lost : ((s : ℕ) → here st s ≡ true → running_for after t s ≡ false) → ExecutesNowhere after t
    executor_lost f =
        let off : (s : ℕ) → running_for after t s ≡ false =
        λ s. unheld_fails _ (λ h. holds_fails h (f s (sym (after_here st e s) ∙ for_here after t s h))) in
        let none : executing after t ≡ false = unheld_fails _ (λ y. holds_fails (by_rule_h.serves y) (off _)) in
        (none, executor_none after t (after_here st e t ∙ used) none)

    -- who executed goes on, and where nobody did nobody does
    pub executor_stays
        : (executing st t ≡ true → running_for after t (executor_of st t) ≡ true)
        → ((s : ℕ) → here st s ≡ true → running_for after t s ≡ true → executing st t ≡ true)
        → executor_of after t ≡ executor_of st t
    executor_stays keep fewer =
        split
        (executing st t)
        (λ y. by_rule_h.keeps (keep y))
        (λ n. (executor_lost (λ s u. unheld_fails _ (λ h. holds_fails (fewer s u h) n))).1 ∙ sym (executor_none st t used n))

    pub executor_same : ((s : ℕ) → here st s ≡ true → running_for after t s ≡ running_for st t s) → executor_of after t ≡ executor_of st t
    executor_same same =
        executor_stays
        (λ y. let f = runs_for_lem st w.facts t y in same _ (for_here st t _ f) ∙ f)
        (λ s u h. served_executes_lem st w.facts t s used (sym (same s u) ∙ h))

  -- the same servers run, with the same ends: the same executors
  pub executors_stay
      : Quiet st e → ((s : ℕ) → here st s ≡ true → running (server_at after s).phase ≡ running (server_at st s).phase) → ExecutorsStay st after Nothing
  executors_stay q same t u n = executor_same t u (λ s v. same_for t s (ends_stay q s v) (same s v))
