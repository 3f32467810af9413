-- Suspend and wake: the whole set rests, the whole set is Active again. Assumes nothing.
use Rattle.std.specs.Prelude.{if◌then◌else◌}
use Rattle.theory.proofs.Kit.{◌≡◌, refl, sym, ap, ◌∙◌, true, false, ◌||◌, inl, ℕ, arith, eqb, eqb-true, eqb-false, eq-eqb, ne_eqb}
use Rattle.laws.proofs.Cases.{split, holds_fails, unheld_fails, unfailed_holds}
use Rattle.laws.proofs.Lists.{get_d_set}
use Rattle.theory.proofs.Declared.{Phase, Idle, Active, Running, Recharging, Suspended, Ready, Server, Task, State, Event, Wake, Suspend}
use Rattle.model.specs.State.{no_task, server_at, task_at, here, idle, active, running, recharging, served, running_for}
use Rattle.model.specs.Events.{with_task, with_phase, refilled, with_mode, each_server, wakes, woken_server, woken, rests, rested_server, rested, slept, changed}
use Rattle.model.specs.Step.{state_after, stepped}
use Rattle.model.proofs.Chain.{here_below}
use Rattle.theory.specs.Rules.{Proper, Rest, ExecutorsStay, TaskIs, Only, Nothing, Slept, Woken, ExecutesNowhere}
use Rattle.theory.proofs.Serving.{each_at}
use Rattle.theory.proofs.Steps.{properly, after_server, task_is, rest_by, ends_stay, same_for, executor_lost, executor_same, executors_stay}
use Rattle.model.proofs.Variants.{idle_is, recharging_is}
use Rattle.theory.proofs.Readings.{resting, for_served, off_for, other_for}
use Rattle.theory.proofs.Executing.{Way}

-- rule 7.2: of the servers that serve it all become Idle that do not recharge
at_rest : (x : Server) → (active x.phase || running x.phase) ≡ false → recharging x.phase ≡ false → with_phase Idle x ≡ x
at_rest x f g = ap (λ p. with_phase p x) (idles x.phase f g)
  where
    idles : (p : Phase) → (active p || running p) ≡ false → recharging p ≡ false → Idle ≡ p
    idles Idle f g = refl
    idles Active f g = holds_fails refl f
    idles Running f g = holds_fails refl f
    idles Recharging f g = holds_fails refl g

module _ (st : State) (t s : ℕ) (used : here st s ≡ true) where
  pub rested_set : served st s ≡ t → recharging (server_at st s).phase ≡ false → rested_server st t s ≡ with_phase Idle (server_at st s)
  unfolding rested_server rests
  rested_set e f =
      split
      (active (server_at st s).phase || running (server_at st s).phase)
      (λ y. rw (used, y, eq-eqb _ t e))
      (λ n. rw (used, n) (sym (at_rest (server_at st s) n f)))

  pub rested_still : (active (server_at st s).phase || running (server_at st s).phase) ≡ false → rested_server st t s ≡ server_at st s
  unfolding rested_server rests
  rested_still n = rw (used, n)

  pub rested_other : ((served st s ≡ t) × (recharging (server_at st s).phase ≡ false) → ⊥) → rested_server st t s ≡ server_at st s
  unfolding rested_server rests
  rested_other n =
      split
      (eqb (served st s) t)
      (λ y. rested_still (resting (server_at st s).phase (inl (unfailed_holds _ (λ f. n (eqb-true _ t y, f))))))
      (λ m. split (active (server_at st s).phase || running (server_at st s).phase) (λ y. rw (used, y, m)) rested_still)

  -- so none of the set runs
  pub rested_off : served st s ≡ t → running (rested_server st t s).phase ≡ false
  rested_off e =
      split
      (recharging (server_at st s).phase)
      (λ y. rw (rested_other (λ q. holds_fails y q.1)) (ap running (recharging_is (server_at st s).phase y)))
      (λ n. rw (rested_set e n))

  woken_set : served st s ≡ t → idle (server_at st s).phase ≡ true → woken_server st t s ≡ refilled Active st.clock (server_at st s)
  unfolding woken_server wakes
  woken_set e i = rw (used, i, eq-eqb _ t e)

  woken_other : ((served st s ≡ t) × (idle (server_at st s).phase ≡ true) → ⊥) → woken_server st t s ≡ server_at st s
  unfolding woken_server wakes
  woken_other n =
      split
      (eqb (served st s) t)
      (λ y. rw (used, unheld_fails (idle (server_at st s).phase) (λ i. n (eqb-true _ t y, i))))
      (λ m. rw (used, m) (split (idle (server_at st s).phase) (λ y. rw y) (λ z. rw z)))

  -- an Idle server that is Active now runs neither before nor after
  woken_phase : running (woken_server st t s).phase ≡ running (server_at st s).phase
  unfolding woken_server wakes
  woken_phase =
      split
      (idle (server_at st s).phase)
      (λ i.
      split
      (eqb (served st s) t)
      (λ y. rw (used, i, y) (sym (ap running (idle_is (server_at st s).phase i))))
      (λ n. rw (used, i, n)))
      (λ n. rw (used, n))

-- an event that makes every server anew and stores task j
module _
    (st : State) (j : ℕ) (e : Event) (w : Way st e) (f : ℕ → Server) (k : Task) (used : here st j ≡ true)
    (is : changed st e ≡ with_task j k (each_server st f))
  where
    anew : (s : ℕ) → here st s ≡ true → server_at (state_after st e) s ≡ f s
    anew s u = after_server st e s ∙ ap (λ z. server_at z s) is ∙ each_at st w.shaped.servers f s u

    stores : (t : ℕ) → task_at (changed st e) t ≡ (if eqb t j then k else task_at st t)
    unfolding each_server
    stores t = ap (λ z. task_at z t) is ∙ get_d_set st.task j t k no_task (omega (arith, w.shaped.tasks, here_below st j used))

    stored : TaskIs (state_after st e) j k
    stored = task_is st e w j used k (stores j ∙ rw (eq-eqb j j refl))

    stirred
        : (servers : ℕ → Type 0) → ((s : ℕ) → here st s ≡ true → (servers s → ⊥) → f s ≡ server_at st s)
        → Rest st (state_after st e) st.clock servers (Only j) Nothing
    unfolding each_server
    stirred servers same =
        rest_by st e w st.clock servers (Only j) Nothing (rw is)
        (λ s u n. sym (after_server st e s) ∙ anew s u ∙ same s u n)
        (λ t u n. stores t ∙ rw (ne_eqb t j n))
        (λ r u n. rw is)

module _ (st : State) (j : ℕ) (w : Way st (Wake (record { 0 = j }))) where
  abbrev e : Event
  e = Wake (record { 0 = j })

  abbrev k : Task
  k = with_mode Ready (task_at st j)

  at : (s : ℕ) → here st s ≡ true → server_at (state_after st e) s ≡ woken_server st j s
  unfolding woken
  at = anew st j e w (woken_server st j) k w.ground.0 refl

  wakes_all : Woken st (state_after st e) j
  unfolding woken
  wakes_all = record {
    rest =
        stirred st j e w (woken_server st j) k w.ground.0 refl (λ s. (served st s ≡ j) × (idle (server_at st s).phase ≡ true)) (woken_other st j);
    set = λ s i y. at s i.0 ∙ woken_set st j s i.0 i.1 y;
    wakes = stored st j e w (woken_server st j) k w.ground.0 refl;
    ends = ends_stay st e w tt;
    executors = executors_stay st e w tt (λ s u. ap (λ (x : Server). running x.phase) (at s u) ∙ woken_phase st j s u);
  }

module _ (st : State) (j : ℕ) (w : Way st (Suspend (record { 0 = j }))) where
  abbrev d : Event
  d = Suspend (record { 0 = j })

  abbrev l : Task
  l = with_mode Suspended (task_at st j)

  at_rest_now : (s : ℕ) → here st s ≡ true → server_at (state_after st d) s ≡ rested_server st j s
  unfolding slept rested
  at_rest_now = anew st j d w (rested_server st j) l w.ground.0 refl

  gone : (t s : ℕ) → here st s ≡ true → served st s ≡ j → running_for (state_after st d) t s ≡ false
  gone t s u q = off_for (state_after st d) t s (ap (λ (x : Server). running x.phase) (at_rest_now s u) ∙ rested_off st j s u q)

  -- a server of another set is as it was
  others : ExecutorsStay st (state_after st d) (Only j)
  others t u n =
      executor_same st d w t u
      (λ s v.
      split
      (eqb (served st s) j)
      (λ y. gone t s v (eqb-true _ j y) ∙ sym (other_for st t s (λ q. n (sym q ∙ eqb-true _ j y))))
      (λ m.
      same_for st d w t s (ends_stay st d w tt s v)
      (ap (λ (x : Server). running x.phase) (at_rest_now s v ∙ rested_other st j s v (λ q. eqb-false _ j m q.0)))))

  nowhere : ExecutesNowhere (state_after st d) j
  nowhere =
      executor_lost st d w j w.ground.0
      (λ s u. unheld_fails _ (λ f. holds_fails f (gone j s u (sym (ends_stay st d w tt s u) ∙ for_served (state_after st d) j s f))))

  sleeps_all : Slept st (state_after st d) j
  unfolding slept rested
  sleeps_all = record {
    rest =
        stirred st j d w (rested_server st j) l w.ground.0 refl (λ s. (served st s ≡ j) × (recharging (server_at st s).phase ≡ false)) (rested_other st j);
    set = λ s i y. at_rest_now s i.0 ∙ rested_set st j s i.0 i.1 y;
    sleeps = stored st j d w (rested_server st j) l w.ground.0 refl;
    ends = ends_stay st d w tt;
    executors = others;
    nowhere = nowhere;
  }

pub wakes_set : (st : State) (j : ℕ) → Proper st (Wake (record { 0 = j })) → Woken st (stepped st (Wake (record { 0 = j }))).state j
wakes_set st j p = properly st (Wake (record { 0 = j })) p (λ after. Woken st after j) (wakes_all st j)

pub sleeps_set : (st : State) (j : ℕ) → Proper st (Suspend (record { 0 = j })) → Slept st (stepped st (Suspend (record { 0 = j }))).state j
sleeps_set st j p = properly st (Suspend (record { 0 = j })) p (λ after. Slept st after j) (sleeps_all st j)
