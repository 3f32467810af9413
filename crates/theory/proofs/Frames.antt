-- Frames: what an event can make of one server, of one task and of one resource, whatever the state. Each entry after the event's change stays as it
-- was, or it is one of a few rewritings of itself (`ServerMade`, `TaskMade`, `ResourceMade`) that say by which event and why: that is `server_after`,
-- `task_after`, `resource_after`. What no rewriting touches no event touches: fields (`servers_left`, `tasks_left`), the counts
-- (`heads_kept`), the clock but for an elapse, the arrays' sixteen places (`changed_shaped`). What no event reaches stays: entries past the counts
-- (`past_kept` in Outcomes.antt), and the entries of other groups (Locality.antt). Assumes nothing.
use Rattle.theory.proofs.Kit.{◌≡◌, refl, sym, ap, subst, ◌∙◌, true, false, ◌||◌, ◌&&◌, ◌⊎◌, inl, inr, ⊎_elim, ℕ, ◌<◌, arith, eqb, length, get_or, set, length-set, eqb-true, eqb-false}
use Rattle.laws.proofs.Cases.{split, holds_fails, if_yes, if_no, and_right}
use Rattle.laws.proofs.Lists.{store_cases}
use Rattle.laws.proofs.Set.{length_set_to, each_cases}
use Rattle.theory.proofs.Declared.{TaskNo, Phase, Idle, Active, Running, Mode, Suspended, Ready, Waiting, Runs, None, Some, Server, Task, Resource, State, Event, Wake, Suspend, Dispatch, Preempt, Elapse, Recharge, Lock, Unlock}
use Rattle.model.specs.State.{places, no_server, no_task, no_resource, server_at, task_at, resource_at, in_use, here, present, idle, active, running, suspended, owned, served}
use Rattle.model.specs.Shape.{Shaped}
use Rattle.model.specs.RuleH.{with_runs, settled}
use Rattle.model.specs.Events.{with_server, with_task, with_phase, refilled, with_mode, server_by, each_server, wakes, woken_server, woken, rests, rested_server, rested, slept, phased, spent_server, ticked_task, task_by, elapsed, recharged_phase, recharged, pushed, popped, with_owner, enqueued, dequeued, first_waiter, granted, joined, rested_end, locked, freed, passed, unlocked, changed, acting, with_servers}
use Rattle.model.specs.Step.{state_after}
use Rattle.model.proofs.RuleH.{settled_field}
use Rattle.model.proofs.Boxes.{dequeued_long}
use Rattle.model.proofs.Grounds.{Grounds}
use Rattle.model.proofs.Room.{first_here}
use Rattle.model.proofs.Sound.{Loose}

module _ (a b : State) (tasks : a.tasks ≡ b.tasks) (resources : a.resources ≡ b.resources) where
  pub heads_here : (i : ℕ) → here a i ≡ here b i
  unfolding here
  heads_here i = ap (λ n. in_use n i) tasks

  pub heads_present : (r : ℕ) → present a r ≡ present b r
  unfolding present
  heads_present r = ap (λ n. in_use n r) resources

-- the counts: nobody writes them
abbrev pub Heads : State → State → Type 0
Heads a b = (a.processors ≡ b.processors) × (a.tasks ≡ b.tasks) × (a.resources ≡ b.resources)

-- with them the arrays' lengths
abbrev Kept : State → State → Type 0
Kept a b =
    (a.processors ≡ b.processors) × (a.tasks ≡ b.tasks) × (a.resources ≡ b.resources) ×
    (length a.server ≡ length b.server) × (length a.task ≡ length b.task) × (length a.resource ≡ length b.resource)

-- what comes to rest behind an end is servers
pub rests_alone : (u : State) (t : ℕ) → rested_end u t ≡ with_servers (rested_end u t).server u
unfolding rested_end rested each_server
rests_alone u t = split (suspended (task_at u (served u t)).mode) (λ y. rw y) (λ n. rw n)

rested_long : (u : State) (t : ℕ) → length (rested_end u t).server ≡ length u.server
unfolding rested_end rested each_server
rested_long u t = split (suspended (task_at u (served u t)).mode) (λ y. rw y (length_set_to places _ u.server)) (λ n. rw n)

changed_kept : (st : State) (e : Event) → Kept (changed st e) st
unfolding woken slept rested phased elapsed recharged each_server locked unlocked granted joined freed passed
changed_kept st (Wake t) = (refl, refl, refl, length_set_to places _ st.server, length-set st.task _ _, refl)
changed_kept st (Suspend t) = (refl, refl, refl, length_set_to places _ st.server, length-set st.task _ _, refl)
changed_kept st (Dispatch s) = (refl, refl, refl, length-set st.server _ _, refl, refl)
changed_kept st (Preempt s) = (refl, refl, refl, length-set st.server _ _, refl, refl)
changed_kept st (Elapse n) = (refl, refl, refl, length_set_to places _ st.server, length_set_to places _ st.task, refl)
changed_kept st (Recharge s) = (refl, refl, refl, length-set st.server _ _, refl, refl)
changed_kept st (Lock t r) =
    split
    (owned (resource_at st r).owner)
    (λ y.
    rw (y, rests_alone (joined st t.0 r) t.0)
    (refl, refl, refl, rested_long (joined st t.0 r) t.0, length-set st.task _ _, length-set st.resource _ _))
    (λ n. rw n (refl, refl, refl, refl, length-set st.task _ _, length-set st.resource _ _))
changed_kept st (Unlock t r) =
    split
    (eqb (resource_at st r).waiting 0)
    (λ y. rw y (refl, refl, refl, refl, length-set st.task _ _, length-set st.resource _ _))
    (λ n. rw n (refl, refl, refl, refl, length-set (set st.task _ _) _ _ ∙ length-set st.task _ _, length-set st.resource _ _))

pub heads_kept : (st : State) (e : Event) → Heads (changed st e) st
heads_kept st e = let k = changed_kept st e in (k.0, k.1, k.2)

-- the clock: only an elapse moves it
pub clock_kept : (st : State) (e : Event) → ((n : ℕ) → e ≡ Elapse n → ⊥) → (changed st e).clock ≡ st.clock
unfolding woken slept rested each_server phased recharged locked unlocked granted joined freed passed
clock_kept st (Wake t) other = refl
clock_kept st (Suspend t) other = refl
clock_kept st (Dispatch s) other = refl
clock_kept st (Preempt s) other = refl
clock_kept st (Elapse n) other = absurd (other n refl)
clock_kept st (Recharge s) other = refl
clock_kept st (Lock t r) other = split (owned (resource_at st r).owner) (λ y. rw (y, rests_alone (joined st t.0 r) t.0)) (λ n. rw n)
clock_kept st (Unlock t r) other = split (eqb (resource_at st r).waiting 0) (λ y. rw y) (λ n. rw n)

-- which servers an event reaches
abbrev pub ServerReached : State → Event → ℕ → Type 0
ServerReached st (Wake t) i = (here st i ≡ true) × (served st i ≡ t.0)
ServerReached st (Suspend t) i = (here st i ≡ true) × (served st i ≡ t.0)
ServerReached st (Dispatch s) i = i ≡ s.0
ServerReached st (Preempt s) i = i ≡ s.0
ServerReached st (Elapse n) i = here st i ≡ true
ServerReached st (Recharge s) i = i ≡ s.0
ServerReached st (Lock t r) i =
    (here st i ≡ true) × (owned (resource_at st r).owner ≡ true) × (served (joined st t.0 r) i ≡ served (joined st t.0 r) t.0)
ServerReached st (Unlock t r) i = ⊥

-- what it makes of a server, a task, a resource
pub data ServerMade (st : State) (e : Event) (i : ℕ) (x : Server) : Type 0 where
  in_phase : (p : Phase) → x ≡ with_phase p (server_at st i) → (running p ≡ true → e ≡ Dispatch (record { 0 = i })) → ServerMade st e i x
  refills : (p : Phase) → x ≡ refilled p st.clock (server_at st i) → running p ≡ false → ServerMade st e i x
  spends : (n : ℕ) → x ≡ spent_server st n i → e ≡ Elapse n → ServerMade st e i x

pub data TaskMade (st : State) (e : Event) (i : ℕ) (x : Task) : Type 0 where
  wakes_up : (t : TaskNo) → e ≡ Wake t → i ≡ t.0 → x ≡ with_mode Ready (task_at st i) → TaskMade st e i x
  sleeps : (t : TaskNo) → e ≡ Suspend t → i ≡ t.0 → x ≡ with_mode Suspended (task_at st i) → TaskMade st e i x
  waits : (t : TaskNo) (r : ℕ) → e ≡ Lock t r → i ≡ t.0 → x ≡ with_mode (Waiting r) (task_at st i) → TaskMade st e i x
  takes : (t : TaskNo) (r : ℕ) → e ≡ Lock t r → i ≡ t.0 → x ≡ pushed r (task_at st i) → TaskMade st e i x
  gives : (t : TaskNo) (r : ℕ) → e ≡ Unlock t r → i ≡ t.0 → x ≡ popped (task_at st i) → TaskMade st e i x
  inherits
      : (t : TaskNo) (r : ℕ) → e ≡ Unlock t r → 0 < (resource_at st r).waiting → i ≡ first_waiter (resource_at st r)
      → x ≡ pushed r (with_mode Ready (task_at st i)) → TaskMade st e i x
  ticks : (n : ℕ) → e ≡ Elapse n → here st i ≡ true → x ≡ ticked_task st n i → TaskMade st e i x

pub data ResourceMade (st : State) (e : Event) (q : ℕ) (x : Resource) : Type 0 where
  queued : (t : TaskNo) → e ≡ Lock t q → x ≡ enqueued t.0 (resource_at st q) → ResourceMade st e q x
  owned_by : (t : TaskNo) → e ≡ Lock t q → x ≡ with_owner (Some (record { 0 = t.0 })) (resource_at st q) → ResourceMade st e q x
  given_up : (t : TaskNo) → e ≡ Unlock t q → x ≡ with_owner None (resource_at st q) → ResourceMade st e q x
  passed_on
      : (t : TaskNo) → e ≡ Unlock t q → 0 < (resource_at st q).waiting
      → x ≡ with_owner (Some (record { 0 = first_waiter (resource_at st q) })) (dequeued (resource_at st q)) → ResourceMade st e q x

-- an entry stays, or is made so
abbrev pub ServerAfter : State → Event → ℕ → Server → Type 0
ServerAfter st e i x = (x ≡ server_at st i) ⊎ (ServerReached st e i × ServerMade st e i x)

abbrev pub TaskAfter : State → Event → ℕ → Task → Type 0
TaskAfter st e i x = (x ≡ task_at st i) ⊎ TaskMade st e i x

abbrev pub ResourceAfter : State → Event → ℕ → Resource → Type 0
ResourceAfter st e q x = (x ≡ resource_at st q) ⊎ ResourceMade st e q x

-- servers
rests_serves : (u : State) (t i : ℕ) → rests u t i ≡ true → served u i ≡ t
unfolding rests
rests_serves u t i y = eqb-true _ t (and_right (here u i && (active (server_at u i).phase || running (server_at u i).phase)) _ y)

wakes_serves : (u : State) (t i : ℕ) → wakes u t i ≡ true → served u i ≡ t
unfolding wakes
wakes_serves u t i y = eqb-true _ t (and_right (here u i && idle (server_at u i).phase) _ y)

rest_cases
    : (u : State) (t i : ℕ)
    → (server_at (rested u t) i ≡ server_at u i) ⊎ ((server_at (rested u t) i ≡ with_phase Idle (server_at u i)) × (here u i ≡ true) × (served u i ≡ t))
unfolding rested each_server server_by rested_server
rest_cases u t i =
    ⊎_elim
    (λ c.
    split
    (here u i)
    (λ h. split (rests u t i) (λ y. inr (c ∙ rw (h, y), h, rests_serves u t i y)) (λ n. inl (c ∙ rw (h, n))))
    (λ n. inl (c ∙ rw n)))
    (λ c. inl c)
    (each_cases places (server_by u (rested_server u t)) u.server no_server i)

module _ (st : State) where
  each_after
      : (e : Event) (f : ℕ → Server) → ((s : ℕ) → here st s ≡ true → ServerAfter st e s (f s)) → (i : ℕ) → ServerAfter st e i (server_at (each_server st f) i)
  unfolding each_server server_by
  each_after e f new i =
      ⊎_elim
      (λ c.
      split (here st i) (λ h. subst (ServerAfter st e i) (sym (c ∙ if_yes _ _ _ h)) (new i h)) (λ n. inl (c ∙ if_no _ _ _ n)))
      (λ c. inl c)
      (each_cases places (server_by st f) st.server no_server i)

  put_after : (e : Event) (s : ℕ) (x : Server) → ServerAfter st e s x → (i : ℕ) → ServerAfter st e i (server_at (with_server s x st) i)
  put_after e s x new i = ⊎_elim (λ c. rw (c.1, c.0) new) (λ c. inl c) (store_cases st.server s x no_server i)

  woken_after : (t : TaskNo) (s : ℕ) → here st s ≡ true → ServerAfter st (Wake t) s (woken_server st t.0 s)
  unfolding woken_server
  woken_after t s h = split (wakes st t.0 s) (λ y. inr ((h, wakes_serves st t.0 s y), refills Active (rw y) refl)) (λ n. inl (rw n))

  rested_after : (t : TaskNo) (r i : ℕ) → owned (resource_at st r).owner ≡ true → ServerAfter st (Lock t r) i (server_at (rested_end (joined st t.0 r) t.0) i)
  unfolding rested_end joined here
  rested_after t r i taken =
      split
      (suspended (task_at (joined st t.0 r) (served (joined st t.0 r) t.0)).mode)
      (λ y.
      rw y
      (⊎_elim
      (λ c. inl c)
      (λ c. inr ((c.1, taken, c.2), in_phase Idle c.0 (λ z. holds_fails z refl)))
      (rest_cases (joined st t.0 r) (served (joined st t.0 r) t.0) i)))
      (λ n. rw n (inl refl))

  pub server_after : (e : Event) (i : ℕ) → ServerAfter st e i (server_at (changed st e) i)
  unfolding woken slept phased elapsed recharged recharged_phase locked unlocked granted freed passed
  server_after (Wake t) i = each_after (Wake t) (woken_server st t.0) (woken_after t) i
  server_after (Suspend t) i =
      ⊎_elim (λ c. inl c) (λ c. inr ((c.1, c.2), in_phase Idle c.0 (λ z. holds_fails z refl))) (rest_cases st t.0 i)
  server_after (Dispatch s) i = put_after (Dispatch s) s.0 _ (inr (refl, in_phase Running refl (λ z. refl))) i
  server_after (Preempt s) i = put_after (Preempt s) s.0 _ (inr (refl, in_phase Active refl (λ z. holds_fails z refl))) i
  server_after (Elapse n) i = each_after (Elapse n) (spent_server st n) (λ s h. inr (h, spends n refl refl)) i
  server_after (Recharge s) i =
      put_after (Recharge s) s.0 _
      (inr (refl, refills (recharged_phase st s.0) refl (split (suspended (task_at st (served st s.0)).mode) (λ y. rw y) (λ n. rw n))))
      i
  server_after (Lock t r) i =
      split
      (owned (resource_at st r).owner)
      (λ y. subst (λ z. ServerAfter st (Lock t r) i (server_at z i)) (sym (if_yes _ _ _ y)) (rested_after t r i y))
      (λ n. inl (ap (λ z. server_at z i) (if_no _ _ _ n)))
  server_after (Unlock t r) i = split (eqb (resource_at st r).waiting 0) (λ y. rw y (inl refl)) (λ n. rw n (inl refl))

  -- tasks
  keep_after : (e : Event) (t : ℕ) (x : Task) → TaskAfter st e t x → (i : ℕ) → TaskAfter st e i (task_at (with_task t x st) i)
  keep_after e t x new i = ⊎_elim (λ c. rw (c.1, c.0) new) (λ c. inl c) (store_cases st.task t x no_task i)

  passed_after
      : (t : TaskNo) (r i : ℕ) → 0 < (resource_at st r).waiting → TaskAfter st (Unlock t r) i (task_at (passed st t.0 r (first_waiter (resource_at st r))) i)
  unfolding passed
  passed_after t r i some =
      let h : ℕ = first_waiter (resource_at st r) in
      ⊎_elim
      (λ c. rw (c.1, c.0) (inr (inherits t r refl some refl refl)))
      (λ c. subst (TaskAfter st (Unlock t r) i) (sym c) (keep_after (Unlock t r) t.0 (popped (task_at st t.0)) (inr (gives t r refl refl refl)) i))
      (store_cases (set st.task t.0 (popped (task_at st t.0))) h (pushed r (with_mode Ready (task_at st h))) no_task i)

  ticked_after : (n i : ℕ) → TaskAfter st (Elapse n) i (task_at (elapsed st n) i)
  unfolding elapsed each_server task_by
  ticked_after n i =
      ⊎_elim
      (λ c. split (here st i) (λ h. inr (ticks n refl h (c ∙ if_yes _ _ _ h))) (λ m. inl (c ∙ if_no _ _ _ m)))
      (λ c. inl c)
      (each_cases places (task_by st (ticked_task st n)) st.task no_task i)

  pub task_after : (e : Event) (i : ℕ) → TaskAfter st e i (task_at (changed st e) i)
  unfolding woken slept rested each_server phased recharged locked unlocked granted joined freed
  task_after (Wake t) i = keep_after (Wake t) t.0 _ (inr (wakes_up t refl refl refl)) i
  task_after (Suspend t) i = keep_after (Suspend t) t.0 _ (inr (sleeps t refl refl refl)) i
  task_after (Dispatch s) i = inl refl
  task_after (Preempt s) i = inl refl
  task_after (Elapse n) i = ticked_after n i
  task_after (Recharge s) i = inl refl
  task_after (Lock t r) i =
      split
      (owned (resource_at st r).owner)
      (λ y. rw (y, rests_alone (joined st t.0 r) t.0) (keep_after (Lock t r) t.0 _ (inr (waits t r refl refl refl)) i))
      (λ n. rw n (keep_after (Lock t r) t.0 _ (inr (takes t r refl refl refl)) i))
  task_after (Unlock t r) i =
      split
      (eqb (resource_at st r).waiting 0)
      (λ y. rw y (keep_after (Unlock t r) t.0 _ (inr (gives t r refl refl refl)) i))
      (λ n. rw n (passed_after t r i (omega (arith, eqb-false (resource_at st r).waiting 0 n))))

  -- resources
  own_after : (e : Event) (r : ℕ) (x : Resource) → ResourceAfter st e r x → (q : ℕ) → ResourceAfter st e q (get_or (set st.resource r x) q no_resource)
  own_after e r x new q = ⊎_elim (λ c. rw (c.1, c.0) new) (λ c. inl c) (store_cases st.resource r x no_resource q)

  pub resource_after : (e : Event) (q : ℕ) → ResourceAfter st e q (resource_at (changed st e) q)
  unfolding woken slept rested each_server phased elapsed recharged locked unlocked granted joined freed passed
  resource_after (Wake t) q = inl refl
  resource_after (Suspend t) q = inl refl
  resource_after (Dispatch s) q = inl refl
  resource_after (Preempt s) q = inl refl
  resource_after (Elapse n) q = inl refl
  resource_after (Recharge s) q = inl refl
  resource_after (Lock t r) q =
      split
      (owned (resource_at st r).owner)
      (λ y. rw (y, rests_alone (joined st t.0 r) t.0) (own_after (Lock t r) r _ (inr (queued t refl refl)) q))
      (λ n. rw n (own_after (Lock t r) r _ (inr (owned_by t refl refl)) q))
  resource_after (Unlock t r) q =
      split
      (eqb (resource_at st r).waiting 0)
      (λ y. rw y (own_after (Unlock t r) r _ (inr (given_up t refl refl)) q))
      (λ n. rw n (own_after (Unlock t r) r _ (inr (passed_on t refl (omega (arith, eqb-false (resource_at st r).waiting 0 n)) refl)) q))

-- what no rewriting touches: a field of servers that sees neither phase nor budget and deadline,
module _
    {A : Type 0} (f : Server → A) (phase : (p : Phase) (x : Server) → f (with_phase p x) ≡ f x)
    (refill : (p : Phase) (clock : ℕ) (x : Server) → f (refilled p clock x) ≡ f x) (st : State) (e : Event)
    (spent : (n s : ℕ) → e ≡ Elapse n → f (spent_server st n s) ≡ f (server_at st s)) (i : ℕ)
  where
    server_left : {x : Server} → ServerMade st e i x → f x ≡ f (server_at st i)
    server_left (in_phase p q d) = ap f q ∙ phase p (server_at st i)
    server_left (refills p q n) = ap f q ∙ refill p st.clock (server_at st i)
    server_left (spends n q d) = ap f q ∙ spent n i d

    pub servers_left : f (server_at (state_after st e) i) ≡ f (server_at st i)
    unfolding state_after settled
    servers_left = ⊎_elim (ap f) (λ k. server_left k.1) (server_after st e i)

-- a field of tasks that sees neither mode nor stack (nor where it executes),
module _
    {A : Type 0} (f : Task → A) (mode : (m : Mode) (k : Task) → f (with_mode m k) ≡ f k) (push : (r : ℕ) (k : Task) → f (pushed r k) ≡ f k)
    (pop : (k : Task) → f (popped k) ≡ f k)
  where
    module _ (st : State) (e : Event) (ticked : (n t : ℕ) → e ≡ Elapse n → f (ticked_task st n t) ≡ f (task_at st t)) (i : ℕ) where
      task_left : {x : Task} → TaskMade st e i x → f x ≡ f (task_at st i)
      task_left (wakes_up t d k q) = ap f q ∙ mode Ready (task_at st i)
      task_left (sleeps t d k q) = ap f q ∙ mode Suspended (task_at st i)
      task_left (waits t r d k q) = ap f q ∙ mode (Waiting r) (task_at st i)
      task_left (takes t r d k q) = ap f q ∙ push r (task_at st i)
      task_left (inherits t r d some k q) = ap f q ∙ push r (with_mode Ready (task_at st i)) ∙ mode Ready (task_at st i)
      task_left (gives t r d k q) = ap f q ∙ pop (task_at st i)
      task_left (ticks n d k q) = ap f q ∙ ticked n i d

      tasks_changed : f (task_at (changed st e) i) ≡ f (task_at st i)
      tasks_changed = ⊎_elim (ap f) task_left (task_after st e i)

    pub tasks_left
        : ((x : Runs) (k : Task) → f (with_runs x k) ≡ f k) → (st : State) (e : Event)
        → ((n t : ℕ) → e ≡ Elapse n → f (ticked_task st n t) ≡ f (task_at st t)) → (i : ℕ) → f (task_at (state_after st e) i) ≡ f (task_at st i)
    unfolding state_after
    tasks_left runs st e ticked i = settled_field f runs st (changed st e) (acting st e) i ∙ tasks_changed st e ticked i

-- so no event changes what is declared
pub declared_kept : (st : State) (e : Event) (t : ℕ) → (task_at (state_after st e) t).declared ≡ (task_at st t).declared
unfolding ticked_task
declared_kept st e t = tasks_left (λ k. k.declared) (λ m k. refl) (λ r k. refl) (λ k. refl) (λ x k. refl) st e (λ n i d. refl) t

-- and the length of every array
queue_long : (st : State) (e : Event) (q : ℕ) {x : Resource} → ResourceMade st e q x → length x.queue ≡ length (resource_at st q).queue
queue_long st e q (queued t g d) = ap (λ z. length z.queue) d ∙ length-set (resource_at st q).queue _ _
queue_long st e q (owned_by t g d) = ap (λ z. length z.queue) d
queue_long st e q (given_up t g d) = ap (λ z. length z.queue) d
queue_long st e q (passed_on t g some d) = ap (λ z. length z.queue) d ∙ dequeued_long (resource_at st q)

pub changed_shaped : (st : State) → Shaped st → (e : Event) → Shaped (changed st e)
unfolding ticked_task
changed_shaped st s e = record {
  servers = (changed_kept st e).3 ∙ s.servers;
  tasks = (changed_kept st e).4 ∙ s.tasks;
  resources = (changed_kept st e).5 ∙ s.resources;
  stacks = λ t l.
      tasks_changed (λ k. length k.held) (λ m k. refl) (λ r k. length-set k.held _ _) (λ k. length-set k.held _ _) st e (λ n i d. refl) t
      ∙ s.stacks t l;
  queues = λ q l. ⊎_elim (ap (λ z. length z.queue)) (queue_long st e q) (resource_after st e q) ∙ s.queues q l;
}

pub settled_shaped : (old st : State) (acting : ℕ) → Shaped st → Shaped (settled old acting st)
unfolding settled
settled_shaped old st acting s = record {
  servers = s.servers;
  tasks = length_set_to places _ st.task ∙ s.tasks;
  resources = s.resources;
  stacks = λ t l. settled_field (λ k. length k.held) (λ x k. refl) old st acting t ∙ s.stacks t l;
  queues = s.queues;
}

-- what an accepted event reaches is in use
module _ (st : State) where
  pub server_here : (e : Event) (i : ℕ) → Grounds st e → ServerReached st e i → here st i ≡ true
  server_here (Wake t) i g k = k.0
  server_here (Suspend t) i g k = k.0
  server_here (Dispatch s) i g k = ap (here st) k ∙ g.0
  server_here (Preempt s) i g k = ap (here st) k ∙ g.0
  server_here (Elapse n) i g k = k
  server_here (Recharge s) i g k = ap (here st) k ∙ g.0
  server_here (Lock t r) i g k = k.0
  server_here (Unlock t r) i g k = absurd k

  pub task_here : Loose st → (e : Event) (i : ℕ) {x : Task} → Grounds st e → TaskMade st e i x → here st i ≡ true
  task_here facts e i g (wakes_up t d k q) = ap (here st) k ∙ (subst (Grounds st) d g).0
  task_here facts e i g (sleeps t d k q) = ap (here st) k ∙ (subst (Grounds st) d g).0
  task_here facts e i g (waits t r d k q) = ap (here st) k ∙ (subst (Grounds st) d g).0
  task_here facts e i g (takes t r d k q) = ap (here st) k ∙ (subst (Grounds st) d g).0
  task_here facts e i g (gives t r d k q) = ap (here st) k ∙ (subst (Grounds st) d g).0
  task_here facts e i g (inherits t r d some k q) = ap (here st) k ∙ first_here st facts r (subst (Grounds st) d g).1 some
  task_here facts e i g (ticks n d k q) = k

  pub resource_here : (e : Event) (q : ℕ) {x : Resource} → Grounds st e → ResourceMade st e q x → present st q ≡ true
  resource_here e q g (queued t d z) = (subst (Grounds st) d g).1
  resource_here e q g (owned_by t d z) = (subst (Grounds st) d g).1
  resource_here e q g (given_up t d z) = (subst (Grounds st) d g).1
  resource_here e q g (passed_on t d some z) = (subst (Grounds st) d g).1
