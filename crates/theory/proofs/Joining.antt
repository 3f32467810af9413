-- Lock of an owned resource: what ended at the locker ends where the owner's chain ends, and who executes there. Assumes nothing.
use Rattle.std.specs.Prelude.{if◌then◌else◌}
use Rattle.theory.proofs.Kit.{◌≡◌, refl, sym, ap, ◌∙◌, true, false, ◌⊎◌, inl, inr, ⊎_elim, ℕ, ◌≤◌, eqb, eqb-true, eqb-false, eq-eqb, ne_eqb}
use Rattle.laws.proofs.Cases.{split, holds_fails, unheld_fails}
use Rattle.theory.proofs.Declared.{Idle, Recharging, Waiting, Server, Task, Resource, State, Event, Lock}
use Rattle.model.specs.State.{places, server_at, task_at, resource_at, here, running, recharging, suspended, owned, owner_no, next, served, running_at, running_for, executor_of, executing}
use Rattle.model.specs.Events.{with_servers, with_phase, with_mode, enqueued, rested_server, rested_end, changed, acting}
use Rattle.model.specs.Step.{state_after, stepped}
use Rattle.model.proofs.Chain.{served_here, end_itself, same_served}
use Rattle.model.proofs.RuleH.{settled_next}
use Rattle.theory.specs.Runs.{spins}
use Rattle.theory.specs.Rules.{Proper, Inherits, ExecutorsStay, ExecutesNowhere, Only, LockedBehind}
use Rattle.theory.proofs.Executing.{runs_for_lem, runs_served, runs_ready, Way}
use Rattle.theory.proofs.StacksAndQueues.{touched_shows, touched_reads, touched}
use Rattle.theory.proofs.Locking.{owner_here, link_others, ends_after_wait, apart, ended, locked_is, servers_stay, servers_rest, now_next}
use Rattle.theory.proofs.Steps.{properly, executor_none, nobody_serves, after_here, after_server, after_resource, after_running, task_is, rest_by, same_for, by_rule_h, executor_lost, executor_same}
use Rattle.model.proofs.Variants.{recharging_is}
use Rattle.theory.proofs.Readings.{resting, for_running, for_served, running_for_lem, running_here, spins_by, off_for, other_for}
use Rattle.theory.proofs.Sleeping.{rested_set, rested_other, rested_still, rested_off}

module _ (st : State) (t r : ℕ) (taken : owned (resource_at st r).owner ≡ true) (w : Way st (Lock (record { 0 = t }) r)) where
  abbrev o : ℕ
  o = owner_no (resource_at st r).owner

  abbrev j : ℕ
  j = served st o

  abbrev e : Event
  e = Lock (record { 0 = t }) r

  abbrev k : Task
  k = with_mode (Waiting r) (task_at st t)

  abbrev line : Resource
  line = enqueued t (resource_at st r)

  abbrev mid : State
  mid = touched st t r k line

  abbrev after : State
  after = state_after st e

  end_used : here st j ≡ true
  end_used = served_here st o (owner_here st t r taken w)

  changed_is : changed st e ≡ with_servers (rested_end mid t).server mid
  changed_is = locked_is st t r taken w

  after_links : (y : ℕ) → next after y ≡ next mid y
  unfolding state_after
  after_links y = settled_next st (changed st e) (acting st e) y ∙ ap (λ z. next z y) changed_is ∙ now_next st t r taken w y

  after_mid : (y : ℕ) → served after y ≡ served mid y
  after_mid = same_served after mid after_links

  joins : (s : ℕ) → here st s ≡ true → served st s ≡ t → served after s ≡ j
  joins s u q = after_mid s ∙ ends_after_wait st t r taken w s u ∙ rw (eq-eqb _ t q)

  others_stay : (s : ℕ) → here st s ≡ true → (served st s ≡ t → ⊥) → served after s ≡ served st s
  others_stay s u n = after_mid s ∙ ends_after_wait st t r taken w s u ∙ rw (ne_eqb _ t n)

  locker_end : served after t ≡ j
  locker_end = joins t w.ground.0 (end_itself st t (ended st t r taken w))

  end_ends : places ≤ next after j
  end_ends = rw (after_links j ∙ link_others st t r taken w j (apart st t r taken w)) (w.facts.opens o (owner_here st t r taken w))

  -- the end is awake: servers stay as they are
  module _ (awake : suspended (task_at st j).mode ≡ false) where
    still : (s : ℕ) → server_at after s ≡ server_at st s
    still s = after_server st e s ∙ ap (λ z. server_at z s) changed_is ∙ servers_stay st t r taken w awake s

    still_runs : (s : ℕ) → running_at after s ≡ running_at st s
    still_runs s = after_running st e s (ap (λ (x : Server). running x.phase) (still s))

    abbrev y : ℕ
    y = executor_of st t

    runs_now : running_at after y ≡ true
    runs_now = still_runs y ∙ for_running st t y (runs_for_lem st w.facts t w.ground.3)

    ends_now : served after y ≡ j
    ends_now = joins y (running_here st y (for_running st t y (runs_for_lem st w.facts t w.ground.3))) (runs_served st w.facts t w.ground.3)

    end_executed : executing st j ≡ false → executor_of after j ≡ y
    end_executed n =
        (by_rule_h st e w j end_used).takes
        (rw (executor_none st j end_used n) (nobody_serves after j))
        (running_for_lem after j y runs_now ends_now)

    module _ (runs : executing st j ≡ true) where
      abbrev x : ℕ
      x = executor_of st j

      x_runs : running_at st x ≡ true
      x_runs = for_running st j x (runs_for_lem st w.facts j runs)

      x_ends : served st x ≡ j
      x_ends = runs_served st w.facts j runs

      end_kept : executor_of after j ≡ x
      end_kept =
          (by_rule_h st e w j end_used).keeps
          (running_for_lem after j x (still_runs x ∙ x_runs) (others_stay x (running_here st x x_runs) (λ q. apart st t r taken w (sym x_ends ∙ q)) ∙ x_ends))

      locker_spins : spins after y ≡ true
      locker_spins =
          spins_by after y runs_now
          (λ q.
          let same : x ≡ y = sym end_kept ∙ ap (executor_of after) (sym ends_now) ∙ q in
          apart st t r taken w (sym x_ends ∙ ap (served st) same ∙ runs_served st w.facts t w.ground.3))

  task_now : (i : ℕ) → task_at (changed st e) i ≡ (if eqb i t then k else task_at st i)
  task_now i = ap (λ z. task_at z i) changed_is ∙ touched_shows st w.shaped t r w.ground.0 w.ground.1 k line (λ z. z) i

  resource_now : (q : ℕ) → resource_at (changed st e) q ≡ (if eqb q r then line else resource_at st q)
  resource_now q = ap (λ z. resource_at z q) changed_is ∙ touched_reads st w.shaped t r w.ground.0 w.ground.1 k line (λ z. z) q

  -- it sleeps: the servers that come to it rest
  module _ (sleeps : suspended (task_at st j).mode ≡ true) (s : ℕ) (u : here st s ≡ true) where
    mid_used : here mid s ≡ true
    unfolding here
    mid_used = u

    at : server_at (changed st e) s ≡ rested_server mid j s
    at = ap (λ z. server_at z s) changed_is ∙ servers_rest st t r taken w sleeps s u

    rests : served after s ≡ j → recharging (server_at st s).phase ≡ false → server_at (changed st e) s ≡ with_phase Idle (server_at st s)
    rests q f = at ∙ rested_set mid j s mid_used (sym (after_mid s) ∙ q) f

    rests_off : served after s ≡ j → running_for after j s ≡ false
    rests_off q = off_for after j s (ap (λ (x : Server). running x.phase) (after_server st e s ∙ at) ∙ rested_off mid j s mid_used (sym (after_mid s) ∙ q))

    -- those that do not come, or recharge, stay; those that were there rest already
    stays : ((served st s ≡ t) × (recharging (server_at st s).phase ≡ false) → ⊥) → server_at (changed st e) s ≡ server_at st s
    stays n =
        at
        ∙ split
        (eqb (served st s) j)
        (λ y.
        let here-sleeps : suspended (task_at st (served st s)).mode ≡ true = ap (λ z. suspended (task_at st z).mode) (eqb-true _ j y) ∙ sleeps in
        rested_still mid j s mid_used (resting (server_at st s).phase (⊎_elim (λ c. inl c) (λ i. inr (i.1 here-sleeps)) (w.facts.idles s u))))
        (λ m.
        rested_other mid j s mid_used
        (λ q.
        split
        (eqb (served st s) t)
        (λ z. n (eqb-true _ t z, q.1))
        (λ z. eqb-false _ j m (sym (others_stay s u (eqb-false _ t z)) ∙ after_mid s ∙ q.0))))

  -- a server that does not come to a sleeping end stays
  abbrev Touched : ℕ → Type 0
  Touched s = (suspended (task_at st j).mode ≡ true) × (served st s ≡ t) × (recharging (server_at st s).phase ≡ false)

  server_stays : (s : ℕ) → here st s ≡ true → (Touched s → ⊥) → server_at (changed st e) s ≡ server_at st s
  server_stays s u n =
      split (suspended (task_at st j).mode) (λ y. stays y s u (λ q. n (y, q.0, q.1))) (λ a. sym (after_server st e s) ∙ still a s)

  others : ExecutorsStay st after (λ v. (v ≡ t) ⊎ ((v ≡ j) × (suspended (task_at st j).mode ≡ false)))
  others v u n =
      executor_same st e w v u
      (λ s h.
      split
      (eqb (served st s) t)
      (λ y.
      let q : served st s ≡ t = eqb-true _ t y in
      let to_end : served after s ≡ j = joins s h q in
      unheld_fails _
      (λ f.
      let is-end : v ≡ j = sym (for_served after v s f) ∙ to_end in
      split
      (suspended (task_at st j).mode)
      (λ z. holds_fails (ap (λ x. running_for after x s) (sym is-end) ∙ f) (rests_off z s h to_end))
      (λ z. n (inr (is-end, z))))
      ∙ sym (other_for st v s (λ p. n (inl (sym p ∙ q)))))
      (λ m.
      let apart_from : served st s ≡ t → ⊥ = eqb-false _ t m in
      same_for st e w v s (others_stay s h apart_from)
      (ap (λ (x : Server). running x.phase) (after_server st e s ∙ server_stays s h (λ c. apart_from c.1)))))

  nowhere : ExecutesNowhere after t
  nowhere =
      executor_lost st e w t w.ground.0
      (λ s u.
      other_for after t s
      (λ q.
      split
      (eqb (served st s) t)
      (λ y. apart st t r taken w (sym (joins s u (eqb-true _ t y)) ∙ q))
      (λ m. eqb-false _ t m (sym (others_stay s u (eqb-false _ t m)) ∙ q))))

  rests_behind
      : suspended (task_at st j).mode ≡ true → (s : ℕ) → Inherits after j s
      → ((server_at after s).phase ≡ Idle) ⊎ ((server_at after s).phase ≡ Recharging)
  rests_behind y s i =
      let u : here st s ≡ true = sym (after_here st e s) ∙ i.0 in
      split
      (recharging (server_at st s).phase)
      (λ c. inr (ap (λ (x : Server). x.phase) (after_server st e s ∙ server_stays s u (λ q. holds_fails c q.2)) ∙ recharging_is (server_at st s).phase c))
      (λ c. inl (ap (λ (x : Server). x.phase) (after_server st e s ∙ rests y s u i.1 c)))

  behind : LockedBehind st after t r j
  behind =
      let awake : executing st j ≡ true → suspended (task_at st j).mode ≡ false = λ y. ap suspended (runs_ready st w.facts j y) in
      record {
        rest =
            rest_by st e w st.clock Touched (Only t) (Only r) (ap (λ z. z.clock) changed_is) server_stays
            (λ i u n. task_now i ∙ rw (ne_eqb i t n))
            (λ q u n. resource_now q ∙ rw (ne_eqb q r n));
        waits = task_is st e w t w.ground.0 k (task_now t ∙ rw (eq-eqb t t refl));
        queue = after_resource st e r ∙ resource_now r ∙ rw (eq-eqb r r refl);
        end = locker_end;
        unblocked = end_ends;
        inherits = joins;
        others = others_stay;
        nowhere = nowhere;
        executors = others;
        spins_where_executing = λ y. (end_kept (awake y) y, locker_spins (awake y) y);
        executes_where_not = end_executed;
        rests = λ y s i c. after_server st e s ∙ rests y s i.0 (joins s i.0 i.1) c;
        rests_behind_sleeper = rests_behind;
      }

pub locks_behind
    : (st : State) (t r : ℕ) → Proper st (Lock (record { 0 = t }) r) → owned (resource_at st r).owner ≡ true
    → LockedBehind st (stepped st (Lock (record { 0 = t }) r)).state t r (served st (owner_no (resource_at st r).owner))
locks_behind st t r p taken =
    properly st (Lock (record { 0 = t }) r) p (λ after. LockedBehind st after t r (served st (owner_no (resource_at st r).owner))) (behind st t r taken)
