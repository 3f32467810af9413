-- An event with rule H is its own group's matter, and nothing to the others. Its own: what its change writes is made of what the group reads, so two
-- states that agree on the group agree on it after the change (`changed_same`), and rule H is a group's own too (`settled_same`). The others': an
-- accepted event reaches only entries with the label of the task that acts (`server_label`, `task_label`, `resource_label`), so the change leaves the
-- rest alone (Frames.antt); rule H changes nothing in a loose state, whoever acts (`settled_still`), so what was left alone before rule H is left
-- alone by it, by `settled_same` and with no second proof. An elapse is seen by every group. Leans on Agreement.antt. Assumes nothing.
use Rattle.theory.proofs.Kit.{◌≡◌, refl, sym, ap, subst, ◌∙◌, true, false, ◌&&◌, ◌||◌, true≢false, List, inr, ⊎_elim, ℕ, ◌+◌, ◌<◌, ltb, eqb, eqb-true, ltb-true, lt-ltb}
use Rattle.laws.specs.Loops.{set_to}
use Rattle.laws.proofs.Cases.{split, holds_fails, unheld_fails}
use Rattle.laws.proofs.Set.{set_kept}
use Rattle.laws.proofs.SameAt.{SameAt, store_both, stored_both, each_both}
use Rattle.reordering.specs.Order.{Kind, time, group, sees}
use Rattle.reordering.proofs.Local.{group_inj, time_group}
use Rattle.theory.proofs.Declared.{TaskNo, Active, Running, Suspended, Ready, Waiting, Runs, None, Some, Server, Task, Resource, State, Event, Wake, Suspend, Dispatch, Preempt, Elapse, Recharge, Lock, Unlock}
use Rattle.model.specs.State.{places, no_server, no_task, no_resource, server_at, task_at, resource_at, here, present, idle, active, running, suspended, awaited, owned, owner_no, placed, executor_number, served, running_for, executor_of}
use Rattle.model.specs.RuleH.{chosen, executor_by, runs_in, settled_task, settled}
use Rattle.model.specs.Events.{with_phase, refilled, with_mode, server_by, each_server, wakes, woken_server, woken, rests, rested_server, rested, slept, phased, own_ticks, lent_ticks, spin_ticks, runs_out, spent_server, ticked_task, task_by, elapsed, recharged_phase, recharged, pushed, popped, with_owner, enqueued, dequeued, first_waiter, granted, joined, rested_end, locked, freed, passed, unlocked, changed, acting}
use Rattle.model.specs.Step.{state_after}
use Rattle.model.proofs.Chosen.{chosen_serves}
use Rattle.model.proofs.Grounds.{Grounds}
use Rattle.model.proofs.Room.{first_here, first_waits}
use Rattle.model.proofs.RuleH.{serving_below}
use Rattle.model.proofs.Sound.{Loose}
use Rattle.theory.proofs.Frames.{heads_here, heads_present, heads_kept, clock_kept, changed_shaped, ServerReached, TaskMade, wakes_up, sleeps, waits, takes, inherits, gives, ticks, ResourceMade, queued, owned_by, given_up, passed_on, server_after, task_after, resource_after, rests_alone}
use Rattle.theory.proofs.Readings.{for_running, for_served, running_here}
use Rattle.theory.proofs.Agreement.{Labels, Agree, Homed, Good, good_home, good_self, here_same, running_same, executing_same, executes_same, executor_of_same, served_same, served_home, served_in, serves_same, for_same, chosen_same}

-- what an event is to the order, by the labels
abbrev pub kind_by : Labels → Event → Kind
kind_by l (Wake t) = group (l.of_task t.0)
kind_by l (Suspend t) = group (l.of_task t.0)
kind_by l (Dispatch s) = group (l.of_task s.0)
kind_by l (Preempt s) = group (l.of_task s.0)
kind_by l (Elapse n) = time
kind_by l (Recharge s) = group (l.of_task s.0)
kind_by l (Lock t r) = group (l.of_task t.0)
kind_by l (Unlock t r) = group (l.of_task t.0)

-- the labels of what an accepted event reaches
module _ (l : Labels) (st : State) (good : Good l st) where
  abbrev home : Homed l st
  home = good_home l st good

  pub lock_label : (t : TaskNo) (r : ℕ) → Grounds st (Lock t r) → l.of_resource r ≡ l.of_task t.0
  lock_label t r g = good.fits t.0 r g.0 g.1 g.2

  -- what t owns has its label
  pub owned_label : (t r : ℕ) → here st t ≡ true → present st r ≡ true → owner_no (resource_at st r).owner ≡ t → l.of_resource r ≡ l.of_task t
  owned_label t r h p q = home.owns r p (rw q h) ∙ ap l.of_task q

  pub unlock_label : (t : TaskNo) (r : ℕ) → Grounds st (Unlock t r) → l.of_resource r ≡ l.of_task t.0
  unlock_label t r g = owned_label t.0 r g.0 g.1 g.3

  -- the first waiter has the resource's label
  heir_label : (r : ℕ) → present st r ≡ true → 0 < (resource_at st r).waiting → l.of_resource r ≡ l.of_task (first_waiter (resource_at st r))
  heir_label r p some =
      let f = good.loose in
      let h = first_here st f r p some in
      good.fits _ r h p (f.declared _ h r p (inr (first_waits st f r p some)))

  module _ (e : Event) (g : Grounds st e) where
    -- the change keeps waiters and owners at home
    task_home : (i : ℕ) {x : Task} → TaskMade st e i x → here st i ≡ true → present st (awaited x.mode) ≡ true → l.of_resource (awaited x.mode) ≡ l.of_task i
    unfolding present ticked_task
    task_home i (wakes_up t d k q) h = rw q (λ p. absurd (true≢false (sym p)))
    task_home i (sleeps t d k q) h = rw q (λ p. absurd (true≢false (sym p)))
    task_home i (waits t r d k q) h = rw q (λ p. lock_label t r (subst (Grounds st) d g) ∙ ap l.of_task (sym k))
    task_home i (takes t r d k q) h = rw q (home.waits i h)
    task_home i (gives t r d k q) h = rw q (home.waits i h)
    task_home i (inherits t r d some k q) h = rw q (λ p. absurd (true≢false (sym p)))
    task_home i (ticks n d k q) h = rw q (home.waits i h)

    resource_home
        : (r : ℕ) {x : Resource} → ResourceMade st e r x → present st r ≡ true → here st (owner_no x.owner) ≡ true
        → l.of_resource r ≡ l.of_task (owner_no x.owner)
    unfolding here
    resource_home r (queued t d q) p = rw q (home.owns r p)
    resource_home r (owned_by t d q) p = rw q (λ h. lock_label t r (subst (Grounds st) d g))
    resource_home r (given_up t d q) p = rw q (λ h. absurd (true≢false (sym h)))
    resource_home r (passed_on t d some q) p = rw q (λ h. heir_label r p some)

    changed_home : Homed l (changed st e)
    changed_home =
        let counts = heads_kept st e in
        let hs = heads_here (changed st e) st counts.1 counts.2 in
        let ps = heads_present (changed st e) st counts.1 counts.2 in
        record {
          waits = λ t h p.
              let k = sym (hs t) ∙ h in
              ⊎_elim (λ q. rw q (λ x. home.waits t k x)) (λ m. task_home t m k) (task_after st e t) (sym (ps _) ∙ p);
          owns = λ r p h.
              let k = sym (ps r) ∙ p in
              ⊎_elim (λ q. rw q (λ x. home.owns r k x)) (λ m. resource_home r m k) (resource_after st e r) (sym (hs _) ∙ h);
        }

  -- servers at rest are no waiters and own nothing
  joined_home : (t : TaskNo) (r : ℕ) → Grounds st (Lock t r) → owned (resource_at st r).owner ≡ true → Homed l (joined st t.0 r)
  unfolding locked here present
  joined_home t r g y =
      let h = changed_home (Lock t r) g in
      let k = rw (y, rests_alone (joined st t.0 r) t.0) at h in
      record { waits = k.waits; owns = k.owns }

  module _ (g : ℕ) where
    server_label : (e : Event) → Grounds st e → kind_by l e ≡ group g → (i : ℕ) → ServerReached st e i → l.of_task i ≡ g
    server_label (Wake t) c k i q = sym (served_home l st home i) ∙ ap l.of_task q.1 ∙ group_inj k
    server_label (Suspend t) c k i q = sym (served_home l st home i) ∙ ap l.of_task q.1 ∙ group_inj k
    server_label (Dispatch s) c k i q = ap l.of_task q ∙ group_inj k
    server_label (Preempt s) c k i q = ap l.of_task q ∙ group_inj k
    server_label (Elapse n) c k i q = absurd (time_group k)
    server_label (Recharge s) c k i q = ap l.of_task q ∙ group_inj k
    server_label (Lock t r) c k i q =
        let mid = joined_home t r c q.1 in
        sym (served_home l _ mid i) ∙ ap l.of_task q.2 ∙ served_home l _ mid t.0 ∙ group_inj k
    server_label (Unlock t r) c k i q = absurd q

    module _ (e : Event) (c : Grounds st e) (k : kind_by l e ≡ group g) where
      task_label : (i : ℕ) {x : Task} → TaskMade st e i x → l.of_task i ≡ g
      task_label i (wakes_up t d q z) = ap l.of_task q ∙ group_inj (ap (kind_by l) (sym d) ∙ k)
      task_label i (sleeps t d q z) = ap l.of_task q ∙ group_inj (ap (kind_by l) (sym d) ∙ k)
      task_label i (waits t r d q z) = ap l.of_task q ∙ group_inj (ap (kind_by l) (sym d) ∙ k)
      task_label i (takes t r d q z) = ap l.of_task q ∙ group_inj (ap (kind_by l) (sym d) ∙ k)
      task_label i (gives t r d q z) = ap l.of_task q ∙ group_inj (ap (kind_by l) (sym d) ∙ k)
      task_label i (inherits t r d some q z) =
          let b = subst (Grounds st) d c in
          ap l.of_task q ∙ sym (heir_label r b.1 some) ∙ unlock_label t r b ∙ group_inj (ap (kind_by l) (sym d) ∙ k)
      task_label i (ticks n d q z) = absurd (time_group (ap (kind_by l) (sym d) ∙ k))

      resource_label : (i : ℕ) {x : Resource} → ResourceMade st e i x → l.of_resource i ≡ g
      resource_label i (queued t d z) = lock_label t i (subst (Grounds st) d c) ∙ group_inj (ap (kind_by l) (sym d) ∙ k)
      resource_label i (owned_by t d z) = lock_label t i (subst (Grounds st) d c) ∙ group_inj (ap (kind_by l) (sym d) ∙ k)
      resource_label i (given_up t d z) = unlock_label t i (subst (Grounds st) d c) ∙ group_inj (ap (kind_by l) (sym d) ∙ k)
      resource_label i (passed_on t d some z) = unlock_label t i (subst (Grounds st) d c) ∙ group_inj (ap (kind_by l) (sym d) ∙ k)

    -- the change leaves the others' entries alone
    changed_left : (h : ℕ) (e : Event) → Grounds st e → kind_by l e ≡ group g → (g ≡ h → ⊥) → Agree l h st (changed st e)
    changed_left h e c k n =
        let counts = heads_kept st e in
        let now = changed_shaped st good.shaped e in
        record {
          processors_same = sym counts.0;
          tasks_same = sym counts.1;
          resources_same = sym counts.2;
          clock_same = sym (clock_kept st e (λ m q. time_group (ap (kind_by l) (sym q) ∙ k)));
          server_same = record {
            left_long = good.shaped.servers;
            right_long = now.servers;
            entry = λ i m. ⊎_elim sym (λ q. absurd (n (sym (server_label e c k i q.0) ∙ m))) (server_after st e i);
          };
          task_same = record {
            left_long = good.shaped.tasks;
            right_long = now.tasks;
            entry = λ i m. ⊎_elim sym (λ q. absurd (n (sym (task_label e c k i q) ∙ m))) (task_after st e i);
          };
          resource_same = record {
            left_long = good.shaped.resources;
            right_long = now.resources;
            entry = λ i m. ⊎_elim sym (λ q. absurd (n (sym (resource_label e c k i q) ∙ m))) (resource_after st e i);
          };
        }

-- what a change of its own group makes of two states that agree
abbrev rebuilt : State → ℕ → List Server → List Task → List Resource → State
rebuilt st n ss ts rs = record { processors = st.processors; tasks = st.tasks; resources = st.resources; clock = n; server = ss; task = ts; resource = rs }

module _ (l : Labels) (g : ℕ) (s u : State) (a : Agree l g s u) where
  agree_by
      : {n m : ℕ} {ss ss' : List Server} {ts ts' : List Task} {rs rs' : List Resource}
      → n ≡ m
      → SameAt l.of_task g places no_server ss ss'
      → SameAt l.of_task g places no_task ts ts'
      → SameAt l.of_resource g places no_resource rs rs'
      → Agree l g (rebuilt s n ss ts rs) (rebuilt u m ss' ts' rs')
  agree_by e x y z = record {
    processors_same = a.processors_same;
    tasks_same = a.tasks_same;
    resources_same = a.resources_same;
    clock_same = e;
    server_same = x;
    task_same = y;
    resource_same = z;
  }

  each_server_lem
      : (f h : ℕ → Server) → ((i : ℕ) → l.of_task i ≡ g → f i ≡ h i)
      → SameAt l.of_task g places no_server (set_to places (server_by s f) s.server) (set_to places (server_by u h) u.server)
  unfolding server_by
  each_server_lem f h v =
      each_both a.server_same (server_by s f) (server_by u h) (λ i e. rw (here_same l g s u a i, v i e, a.server_same.entry i e) refl)

  module _ (home : Homed l s) (other : Homed l u) where
    module _ (t : ℕ) (e : l.of_task t ≡ g) where
      pub wakes_same : (i : ℕ) → wakes s t i ≡ wakes u t i
      unfolding wakes
      wakes_same =
          serves_same l g s u a home other (λ x. here s x && idle (server_at s x).phase) (λ x. here u x && idle (server_at u x).phase) t e
          (λ x k. rw (here_same l g s u a x, a.server_same.entry x k) refl)

      pub rests_same : (i : ℕ) → rests s t i ≡ rests u t i
      unfolding rests
      rests_same =
          serves_same l g s u a home other
          (λ x. here s x && (active (server_at s x).phase || running (server_at s x).phase))
          (λ x. here u x && (active (server_at u x).phase || running (server_at u x).phase))
          t e
          (λ x k. rw (here_same l g s u a x, a.server_same.entry x k) refl)

      rested_servers : SameAt l.of_task g places no_server (rested s t).server (rested u t).server
      unfolding rested each_server rested_server
      rested_servers = each_server_lem (rested_server s t) (rested_server u t) (λ i k. rw (rests_same i, a.server_same.entry i k) refl)

      woken_servers : SameAt l.of_task g places no_server (woken s t).server (woken u t).server
      unfolding woken each_server woken_server
      woken_servers = each_server_lem (woken_server s t) (woken_server u t) (λ i k. rw (wakes_same i, a.clock_same, a.server_same.entry i k) refl)

    -- a lock's new chain end is the group's, and its servers rest
    rested_end_same : (t : ℕ) → l.of_task t ≡ g → Agree l g (rested_end s t) (rested_end u t)
    unfolding rested_end rested each_server
    rested_end_same t e =
        let k : l.of_task (served s t) ≡ g = served_in l g s u a home t e in
        rw (← (served_same l g s u a home t e), ← (a.task_same.entry (served s t) k))
        (split
        (suspended (task_at s (served s t)).mode)
        (λ y. rw y (agree_by a.clock_same (rested_servers (served s t) k) a.task_same a.resource_same))
        (λ n. rw n a))

    recharged_same : (x : ℕ) → Agree l g (recharged s x) (recharged u x)
    unfolding recharged recharged_phase
    recharged_same x =
        agree_by a.clock_same
        (store_both a.server_same x (refilled (recharged_phase s x) s.clock (server_at s x)) (refilled (recharged_phase u x) u.clock (server_at u x))
        (λ k.
        rw (← (served_same l g s u a home x k), a.task_same.entry (served s x) (served_in l g s u a home x k), a.clock_same, a.server_same.entry x k) refl))
        a.task_same a.resource_same

    spent_same : (n i : ℕ) → l.of_task i ≡ g → spent_server s n i ≡ spent_server u n i
    unfolding spent_server runs_out own_ticks lent_ticks spin_ticks
    spent_same n i k =
        rw (running_same l g s u a i k, executes_same l g s u a home i k, served_same l g s u a home i k, a.server_same.entry i k) refl

    ticked_same : (n i : ℕ) → l.of_task i ≡ g → task_by s (ticked_task s n) i ≡ task_by u (ticked_task u n) i
    unfolding task_by ticked_task
    ticked_same n i k = rw (here_same l g s u a i, executing_same l g s u a i k, a.task_same.entry i k) refl

  granted_same : (t r : ℕ) → Agree l g (granted s t r) (granted u t r)
  unfolding granted
  granted_same t r =
      agree_by a.clock_same a.server_same (stored_both a.task_same t (pushed r)) (stored_both a.resource_same r (with_owner (Some (record { 0 = t }))))

  joined_same : (t r : ℕ) → Agree l g (joined s t r) (joined u t r)
  unfolding joined
  joined_same t r =
      agree_by a.clock_same a.server_same (stored_both a.task_same t (with_mode (Waiting r))) (stored_both a.resource_same r (enqueued t))

  freed_same : (t r : ℕ) → Agree l g (freed s t r) (freed u t r)
  unfolding freed
  freed_same t r = agree_by a.clock_same a.server_same (stored_both a.task_same t popped) (stored_both a.resource_same r (with_owner None))

  passed_same : (t r i : ℕ) → Agree l g (passed s t r i) (passed u t r i)
  unfolding passed
  passed_same t r i =
      agree_by a.clock_same a.server_same
      (store_both (stored_both a.task_same t popped) i _ _ (λ k. ap (λ z. pushed r (with_mode Ready z)) (a.task_same.entry i k)))
      (stored_both a.resource_same r (λ x. with_owner (Some (record { 0 = i })) (dequeued x)))

-- an accepted event that the group sees: its own, or time passing
module _ (l : Labels) (g : ℕ) (s u : State) (a : Agree l g s u) (good : Good l s) (fine : Good l u) where
  abbrev own : Homed l s
  own = good_home l s good

  abbrev other : Homed l u
  other = good_home l u fine

  locked_same : (t : TaskNo) (r : ℕ) → Grounds s (Lock t r) → Grounds u (Lock t r) → l.of_task t.0 ≡ g → Agree l g (locked s t.0 r) (locked u t.0 r)
  unfolding locked
  locked_same t r c d e =
      let q : owned (resource_at s r).owner ≡ owned (resource_at u r).owner = ap (λ x. owned x.owner) (a.resource_same.entry r (lock_label l s good t r c ∙ e)) in
      split
      (owned (resource_at s r).owner)
      (λ y.
      rw (y, sym q ∙ y)
      (rested_end_same l g (joined s t.0 r) (joined u t.0 r) (joined_same l g s u a t.0 r)
      (joined_home l s good t r c y) (joined_home l u fine t r d (sym q ∙ y)) t.0 e))
      (λ n. rw (n, sym q ∙ n) (granted_same l g s u a t.0 r))

  unlocked_same : (t : TaskNo) (r : ℕ) → Grounds s (Unlock t r) → l.of_task t.0 ≡ g → Agree l g (unlocked s t.0 r) (unlocked u t.0 r)
  unfolding unlocked
  unlocked_same t r c e =
      let q : resource_at s r ≡ resource_at u r = a.resource_same.entry r (unlock_label l s good t r c ∙ e) in
      split
      (eqb (resource_at s r).waiting 0)
      (λ y. rw (y, ap (λ x. eqb x.waiting 0) (sym q) ∙ y) (freed_same l g s u a t.0 r))
      (λ n.
      rw (n, ap (λ x. eqb x.waiting 0) (sym q) ∙ n, ← (ap first_waiter q)) (passed_same l g s u a t.0 r (first_waiter (resource_at s r))))

  changed_same : (e : Event) → sees g (kind_by l e) ≡ true → Grounds s e → Grounds u e → Agree l g (changed s e) (changed u e)
  unfolding woken slept rested each_server phased elapsed
  changed_same (Wake t) k c d =
      agree_by l g s u a a.clock_same (woken_servers l g s u a own other t.0 (eqb-true _ g k))
      (stored_both a.task_same t.0 (with_mode Ready)) a.resource_same
  changed_same (Suspend t) k c d =
      agree_by l g s u a a.clock_same (rested_servers l g s u a own other t.0 (eqb-true _ g k))
      (stored_both a.task_same t.0 (with_mode Suspended)) a.resource_same
  changed_same (Dispatch x) k c d =
      agree_by l g s u a a.clock_same (stored_both a.server_same x.0 (with_phase Running)) a.task_same a.resource_same
  changed_same (Preempt x) k c d =
      agree_by l g s u a a.clock_same (stored_both a.server_same x.0 (with_phase Active)) a.task_same a.resource_same
  changed_same (Elapse n) k c d =
      agree_by l g s u a (ap (λ z. z + n) a.clock_same)
      (each_server_lem l g s u a (spent_server s n) (spent_server u n) (spent_same l g s u a own other n))
      (each_both a.task_same (task_by s (ticked_task s n)) (task_by u (ticked_task u n)) (ticked_same l g s u a own other n))
      a.resource_same
  changed_same (Recharge x) k c d = recharged_same l g s u a own other x.0
  changed_same (Lock t r) k c d = locked_same t r c d (eqb-true _ g k)
  changed_same (Unlock t r) k c d = unlocked_same t r c (eqb-true _ g k)

  acting_same : (e : Event) → sees g (kind_by l e) ≡ true → acting s e ≡ acting u e
  acting_same (Wake t) k = refl
  acting_same (Suspend t) k = refl
  acting_same (Dispatch x) k = refl
  acting_same (Preempt x) k = refl
  acting_same (Elapse n) k = refl
  acting_same (Recharge x) k = refl
  acting_same (Lock t r) k = executor_of_same l g s u a t.0 (eqb-true _ g k)
  acting_same (Unlock t r) k = executor_of_same l g s u a t.0 (eqb-true _ g k)

-- rule H is a group's own
module _ (l : Labels) (g : ℕ) (old was s u : State) (before : Agree l g old was) (now : Agree l g s u) (home : Homed l s) (other : Homed l u) where
  executor_same : (a t : ℕ) → l.of_task t ≡ g → executor_by s (executor_of old t) a t ≡ executor_by u (executor_of was t) a t
  unfolding executor_by
  executor_same a t e =
      let serves : (x : ℕ) → running_for s t x ≡ running_for u t x = for_same l g s u now home other t e in
      rw (executor_of_same l g old was before t e, serves (executor_of was t), serves a, chosen_same l g s u now home other t e) refl

  settled_task_same : (a t : ℕ) → l.of_task t ≡ g → settled_task old a s t ≡ settled_task was a u t
  unfolding settled_task
  settled_task_same a t e = rw (here_same l g s u now t, executor_same a t e, now.task_same.entry t e) refl

  settled_same : (a : ℕ) → Agree l g (settled old a s) (settled was a u)
  unfolding settled
  settled_same a =
      agree_by l g s u now now.clock_same now.server_same
      (each_both now.task_same (settled_task old a s) (settled_task was a u) (settled_task_same a)) now.resource_same

-- and where it is settled already it changes nothing
runs_again : (x : Runs) → placed x ≡ true → executor_number x < places → runs_in (executor_number x) ≡ x
runs_again None p k = holds_fails p refl
runs_again (Some s) p k = rw (lt-ltb s.0 places k) refl

runs_nowhere : (x : Runs) → placed x ≡ false → x ≡ None
runs_nowhere None p = refl
runs_nowhere (Some s) p = holds_fails refl p

module _ (st : State) (ok : Loose st) where
  -- no server runs for a task that executes nowhere
  unserved : (t : ℕ) → placed (task_at st t).runs ≡ false → (x : ℕ) → running_for st t x ≡ false
  unserved t n x =
      unheld_fails _
      (λ y.
      let r = for_running st t x y in
      holds_fails (ok.serves x (running_here st x r) r) (rw (for_served st t x y) n))

  settled_runs : (a t : ℕ) → here st t ≡ true → runs_in (executor_by st (executor_of st t) a t) ≡ (task_at st t).runs
  unfolding executor_by executor_of
  settled_runs a t h =
      split
      (placed (task_at st t).runs)
      (λ y.
      let f = ok.executor t h y in
      rw f (runs_again (task_at st t).runs y (serving_below st t _ f)))
      (λ n.
      rw (unserved t n (executor_number (task_at st t).runs), unserved t n a, runs_nowhere (task_at st t).runs n)
      (split (ltb (chosen st t) places) (λ y. holds_fails (chosen_serves st t (ltb-true _ _ y)) (unserved t n (chosen st t))) (λ x. rw x refl)))

  settled_entry : (a t : ℕ) → settled_task st a st t ≡ task_at st t
  unfolding settled_task
  settled_entry a t = split (here st t) (λ h. rw (h, settled_runs a t h) refl) (λ n. rw n refl)

  settled_still : (a : ℕ) → settled st a st ≡ st
  unfolding settled
  settled_still a =
      let p = set_kept (settled_task st a st) places st.task no_task (λ t k. settled_entry a t) in
      λ i. rebuilt st st.clock st.server (p i) st.resource

-- change and rule H together: the group's own,
pub after_same
    : (l : Labels) (g : ℕ) (s u : State) → Agree l g s u → Good l s → Good l u → (e : Event) → sees g (kind_by l e) ≡ true → Grounds s e → Grounds u e
    → Agree l g (state_after s e) (state_after u e)
unfolding state_after
after_same l g s u a good fine e k c d =
    rw (← (acting_same l g s u a good fine e k))
    (settled_same l g s u (changed s e) (changed u e) a (changed_same l g s u a good fine e k c d) (changed_home l s good e c) (changed_home l u fine e d)
    (acting s e))

-- and nothing to the others
pub after_left
    : (l : Labels) (g h : ℕ) (st : State) → Good l st → (e : Event) → kind_by l e ≡ group g → (g ≡ h → ⊥) → Grounds st e → Agree l h st (state_after st e)
unfolding state_after
after_left l g h st good e k n c =
    subst (λ x. Agree l h x (settled st (acting st e) (changed st e))) (settled_still st good.loose (acting st e))
    (settled_same l h st st st (changed st e) (good_self l h st good) (changed_left l st good g h e c k n) (good_home l st good) (changed_home l st good e c)
    (acting st e))
