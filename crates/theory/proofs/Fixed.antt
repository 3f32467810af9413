-- Each rule of the paper fixes the whole next state: two states that it allows differ past the counts only. A rule names an entry, the same in all
-- states that it allows, or does not touch it. With the entries every link and every chain end is given, so that the best Running server of
-- a set is the same one in both; and then the executors are. Each rule cites that by what it names. Assumes nothing.
use Rattle.theory.proofs.Kit.{◌≡◌, refl, sym, ap, ◌∙◌, Bool, true, false, ◌⊎◌, inl, inr, ⊎_elim, ℕ, ◌+◌, eqb, eqb-true, eqb-false}
use Rattle.laws.proofs.Cases.{split, holds_fails}
use Rattle.theory.proofs.Declared.{Suspended, Ready, Waiting, Server, Task, Resource, State}
use Rattle.model.specs.State.{nobody, server_at, task_at, resource_at, here, present, idle, recharging, suspended, awaited, owner_no, owner_of, next, served, running_at, running_for, executor_of, executing}
use Rattle.model.specs.RuleH.{budget_at, chosen, runs_in, with_runs}
use Rattle.model.specs.Events.{with_mode, runs_out, ticked_task, pushed, popped}
use Rattle.model.proofs.Chain.{same_served}
use Rattle.model.proofs.Chosen.{chosen_alone}
use Rattle.theory.specs.Runs.{SameInUse}
use Rattle.theory.specs.Rules.{TaskIs, Rest, ExecutorsStay, Only, Nothing, Dispatched, Preempted, Elapsed, Recharged, Slept, Woken, Granted, LockedBehind, Freed, Passed}
use Rattle.theory.proofs.Readings.{for_here}
use Rattle.theory.proofs.Steps.{nobody_serves}
use Rattle.theory.proofs.Frames.{heads_here, heads_present}

-- what all states that a rule allows have in common: a value; a task's record; an executor, which may be one server where that runs for the task and
-- the best of the set where not
abbrev Same : (State → Type 0) → (A : Type 0) → (State → A) → Type 0
Same R A f = (a b : State) → R a → R b → f a ≡ f b

abbrev SameTask : (State → Type 0) → ℕ → Type 0
SameTask R t = (k : Task) × ((a : State) → R a → TaskIs a t k)

abbrev Follows : (State → Type 0) → ℕ → Type 0
Follows R t =
    (y : ℕ) ×
    ((a : State) → R a → (running_for a t y ≡ true → executor_of a t ≡ y) × (running_for a t y ≡ false → executor_of a t ≡ chosen a t))

module _
    (st : State) (R : State → Type 0) (clock : ℕ) (S T Q E : ℕ → Type 0)
    (keeps : (a : State) → R a → Rest st a clock S T Q × ExecutorsStay st a E)
    (server : (s : ℕ) → here st s ≡ true → Same R Server (λ a. server_at a s) ⊎ (S s → ⊥))
    (task : (t : ℕ) → here st t ≡ true → SameTask R t ⊎ (T t → ⊥))
    (resource : (r : ℕ) → present st r ≡ true → Same R Resource (λ a. resource_at a r) ⊎ (Q r → ⊥))
    (executor : (t : ℕ) → here st t ≡ true → (Same R ℕ (λ a. executor_of a t) ⊎ Follows R t) ⊎ (E t → ⊥))
    (a b : State) (x : R a) (y : R b)
  where
    left : Rest st a clock S T Q
    left = (keeps a x).0

    right : Rest st b clock S T Q
    right = (keeps b y).0

    left_here : (i : ℕ) → here a i ≡ here st i
    left_here = heads_here a st left.task_count left.resource_count

    left_present : (r : ℕ) → present a r ≡ present st r
    left_present = heads_present a st left.task_count left.resource_count

    both_tasks : a.tasks ≡ b.tasks
    both_tasks = left.task_count ∙ sym right.task_count

    both_resources : a.resources ≡ b.resources
    both_resources = left.resource_count ∙ sym right.resource_count

    both_here : (i : ℕ) → here a i ≡ here b i
    both_here = heads_here a b both_tasks both_resources

    both_present : (r : ℕ) → present a r ≡ present b r
    both_present = heads_present a b both_tasks both_resources

    -- the entries are the same, but for where tasks execute
    same_server : (s : ℕ) → here a s ≡ true → server_at a s ≡ server_at b s
    same_server s h =
        let u : here st s ≡ true = sym (left_here s) ∙ h in
        ⊎_elim (λ v. v a b x y) (λ n. left.server s u n ∙ sym (right.server s u n)) (server s u)

    same_resource : (r : ℕ) → present a r ≡ true → resource_at a r ≡ resource_at b r
    same_resource r h =
        let u : present st r ≡ true = sym (left_present r) ∙ h in
        ⊎_elim (λ v. v a b x y) (λ n. left.resource r u n ∙ sym (right.resource r u n)) (resource r u)

    same_task : (t : ℕ) → here a t ≡ true → (k : Task) × TaskIs a t k × TaskIs b t k
    same_task t h =
        let u : here st t ≡ true = sym (left_here t) ∙ h in
        ⊎_elim (λ v. (v.0, v.1 a x, v.1 b y)) (λ n. (task_at st t, left.task t u n, right.task t u n)) (task t u)

    -- so the links and the chain ends are
    same_mode : (t : ℕ) → here a t ≡ true → (task_at a t).mode ≡ (task_at b t).mode
    same_mode t u = let k = same_task t u in ap (λ (z : Task). z.mode) k.1 ∙ sym (ap (λ (z : Task). z.mode) k.2)

    same_owner : (r : ℕ) → owner_of a r ≡ owner_of b r
    unfolding owner_of
    same_owner r =
        split
        (present a r)
        (λ h. rw (h, ← (both_present r), h, same_resource r h, both_here (owner_no (resource_at b r).owner)))
        (λ n. rw (n, ← (both_present r), n))

    same_next : (t : ℕ) → next a t ≡ next b t
    unfolding next
    same_next t =
        split
        (here a t)
        (λ h. rw (h, ← (both_here t), h, same_mode t h) (same_owner (awaited (task_at b t).mode)))
        (λ n. rw (n, ← (both_here t), n))

    -- and who runs for whom, and the best of them
    same_running : (s : ℕ) → running_at a s ≡ running_at b s
    unfolding running_at
    same_running s = split (here a s) (λ h. rw (h, ← (both_here s), h, same_server s h)) (λ n. rw (n, ← (both_here s), n))

    same_for : (t s : ℕ) → running_for a t s ≡ running_for b t s
    unfolding running_for
    same_for t s = rw (same_running s, same_served a b same_next s)

    same_chosen : (t : ℕ) → chosen a t ≡ chosen b t
    unfolding budget_at
    same_chosen t = chosen_alone a b t t (λ s l. same_for t s) (λ s l r. ap (λ (z : Server). z.budget) (same_server s (for_here a t s r)))

    same_followed : (t : ℕ) → Follows R t → executor_of a t ≡ executor_of b t
    same_followed t v =
        let same = same_for t v.0 in
        split
        (running_for a t v.0)
        (λ h. (v.1 a x).0 h ∙ sym ((v.1 b y).0 (sym same ∙ h)))
        (λ n. (v.1 a x).1 n ∙ same_chosen t ∙ sym ((v.1 b y).1 (sym same ∙ n)))

    same_executor : (t : ℕ) → here st t ≡ true → executor_of a t ≡ executor_of b t
    same_executor t u =
        ⊎_elim
        (λ v. ⊎_elim (λ c. c a b x y) (same_followed t) v)
        (λ n. (keeps a x).1 t u n ∙ sym ((keeps b y).1 t u n))
        (executor t u)

    fixed : SameInUse a b
    fixed = record {
      processors = left.processor_count ∙ sym right.processor_count;
      tasks = both_tasks;
      resources = both_resources;
      clock = left.time ∙ sym right.time;
      server = same_server;
      task = λ t u.
          let k = same_task t u in
          k.1 ∙ ap (λ z. with_runs (runs_in z) k.0) (same_executor t (sym (left_here t) ∙ u)) ∙ sym k.2;
      resource = same_resource;
    }

-- what a rule names at one number, where a test says so, where both do, where either does
at_only : {X : Type 0} (i j : ℕ) → (j ≡ i → X) → X ⊎ (Only i j → ⊥)
at_only i j x = split (eqb j i) (λ y. inl (x (eqb-true j i y))) (λ n. inr (eqb-false j i n))

at_test : {X : Type 0} (b c : Bool) → (b ≡ c → X) → X ⊎ (b ≡ c → ⊥)
at_test true true x = inl (x refl)
at_test true false x = inr (λ q. holds_fails refl q)
at_test false true x = inr (λ q. holds_fails q refl)
at_test false false x = inl (x refl)

at_both : {X P Q : Type 0} → (X ⊎ (Q → ⊥)) ⊎ (P → ⊥) → X ⊎ (P × Q → ⊥)
at_both c = ⊎_elim (λ v. ⊎_elim (λ x. inl x) (λ n. inr (λ z. n z.1)) v) (λ n. inr (λ z. n z.0)) c

at_either : {X P Q : Type 0} → X ⊎ (P → ⊥) → X ⊎ (Q → ⊥) → X ⊎ (P ⊎ Q → ⊥)
at_either p q = ⊎_elim (λ x. inl x) (λ n. ⊎_elim (λ x. inl x) (λ m. inr (λ z. ⊎_elim n m z)) q) p

-- the best of the set, whoever that is
best : (t : ℕ) (R : State → Type 0) → ((a : State) → R a → executor_of a t ≡ chosen a t) → Follows R t
best t R goes = (nobody, λ a z. (λ h. holds_fails h (nobody_serves a t), λ n. goes a z))

module _ (st : State) where
  pub dispatched_fixed : (a b : State) (s : ℕ) → Dispatched st a s → Dispatched st b s → SameInUse a b
  dispatched_fixed a b s =
      fixed st (λ c. Dispatched st c s) st.clock (Only s) Nothing Nothing (Only (served st s)) (λ c z. (z.rest, z.executors))
      (λ i u. at_only s i (λ q c d x y. rw q (x.runs ∙ sym y.runs))) (λ t u. inr (λ q. q)) (λ r u. inr (λ q. q))
      (λ t u.
      at_only (served st s) t
      (λ q.
      split
      (executing st (served st s))
      (λ h. inl (λ c d x y. rw q ((x.spins_where_executing h).1 ∙ sym (y.spins_where_executing h).1)))
      (λ h. inl (λ c d x y. rw q ((x.executes_where_not h).1 ∙ sym (y.executes_where_not h).1)))))
      a b

  pub preempted_fixed : (a b : State) (s : ℕ) → Preempted st a s → Preempted st b s → SameInUse a b
  preempted_fixed a b s =
      fixed st (λ c. Preempted st c s) st.clock (Only s) Nothing Nothing (λ t. executor_of st t ≡ s) (λ c z. (z.rest, z.executors))
      (λ i u. at_only s i (λ q c d x y. rw q (x.stops ∙ sym y.stops))) (λ t u. inr (λ q. q)) (λ r u. inr (λ q. q))
      (λ t u. at_only s (executor_of st t) (λ q. inr (best t (λ c. Preempted st c s) (λ c z. z.goes_on t u q))))
      a b

  pub recharged_fixed : (a b : State) (s : ℕ) → Recharged st a s → Recharged st b s → SameInUse a b
  recharged_fixed a b s =
      fixed st (λ c. Recharged st c s) st.clock (Only s) Nothing Nothing Nothing (λ c z. (z.rest, z.executors))
      (λ i u.
      at_only s i
      (λ q c d x y.
      rw q (split (suspended (task_at st (served st s)).mode) (λ h. x.asleep h ∙ sym (y.asleep h)) (λ h. x.awake h ∙ sym (y.awake h)))))
      (λ t u. inr (λ q. q)) (λ r u. inr (λ q. q)) (λ t u. inr (λ q. q)) a b

  -- elapse: every Running server, field by field
  spent : (n s : ℕ) → here st s ≡ true → running_at st s ≡ true → Same (λ c. Elapsed st c n) Server (λ c. server_at c s)
  spent n s u r c d x y = λ i. record {
    phase =
        split (runs_out st n s)
        (λ o. x.recharges s o ∙ sym (y.recharges s o))
        (λ m. x.stays s u m ∙ sym (y.stays s u m))
        i;
    budget = (x.spends s r ∙ sym (y.spends s r)) i;
    deadline = ((x.keeps s u).0 ∙ sym (y.keeps s u).0) i;
    quota = ((x.keeps s u).1 ∙ sym (y.keeps s u).1) i;
    period = ((x.keeps s u).2 ∙ sym (y.keeps s u).2) i;
    own = ((x.accounts s u).own ∙ sym (y.accounts s u).own) i;
    lent = ((x.accounts s u).lent ∙ sym (y.accounts s u).lent) i;
    spin = ((x.accounts s u).spin ∙ sym (y.accounts s u).spin) i;
  }

  pub elapsed_fixed : (a b : State) (n : ℕ) → Elapsed st a n → Elapsed st b n → SameInUse a b
  elapsed_fixed a b n =
      fixed st (λ c. Elapsed st c n) (st.clock + n) (λ s. running_at st s ≡ true) (λ t. executing st t ≡ true) Nothing
      (λ t. runs_out st n (executor_of st t) ≡ true) (λ c z. (z.rest, z.executors))
      (λ s u. at_test (running_at st s) true (spent n s u))
      (λ t u. inl (ticked_task st n t, λ c z. z.ticked t u))
      (λ r u. inr (λ q. q))
      (λ t u. at_test (runs_out st n (executor_of st t)) true (λ o. inr (best t (λ c. Elapsed st c n) (λ c z. z.goes_on t u o))))
      a b

  pub slept_fixed : (a b : State) (j : ℕ) → Slept st a j → Slept st b j → SameInUse a b
  slept_fixed a b j =
      fixed st (λ c. Slept st c j) st.clock (λ s. (served st s ≡ j) × (recharging (server_at st s).phase ≡ false)) (Only j) Nothing (Only j)
      (λ c z. (z.rest, z.executors))
      (λ s u.
      at_both
      (at_only j (served st s)
      (λ q. at_test (recharging (server_at st s).phase) false (λ h c d x y. x.set s (u, q) h ∙ sym (y.set s (u, q) h)))))
      (λ t u. at_only j t (λ q. (with_mode Suspended (task_at st j), λ c z. rw q z.sleeps))) (λ r u. inr (λ q. q))
      (λ t u. at_only j t (λ q. inl (λ c d x y. rw q (x.nowhere.1 ∙ sym y.nowhere.1)))) a b

  pub woken_fixed : (a b : State) (j : ℕ) → Woken st a j → Woken st b j → SameInUse a b
  woken_fixed a b j =
      fixed st (λ c. Woken st c j) st.clock (λ s. (served st s ≡ j) × (idle (server_at st s).phase ≡ true)) (Only j) Nothing Nothing
      (λ c z. (z.rest, z.executors))
      (λ s u.
      at_both
      (at_only j (served st s) (λ q. at_test (idle (server_at st s).phase) true (λ h c d x y. x.set s (u, q) h ∙ sym (y.set s (u, q) h)))))
      (λ t u. at_only j t (λ q. (with_mode Ready (task_at st j), λ c z. rw q z.wakes))) (λ r u. inr (λ q. q)) (λ t u. inr (λ q. q)) a b

  pub granted_fixed : (a b : State) (t r : ℕ) → Granted st a t r → Granted st b t r → SameInUse a b
  granted_fixed a b t r =
      fixed st (λ c. Granted st c t r) st.clock Nothing (Only t) (Only r) Nothing (λ c z. (z.rest, z.executors)) (λ s u. inr (λ q. q))
      (λ i u. at_only t i (λ q. (pushed r (task_at st t), λ c z. rw q z.stack)))
      (λ i u. at_only r i (λ q c d x y. rw q (x.owner ∙ sym y.owner))) (λ i u. inr (λ q. q)) a b

  pub freed_fixed : (a b : State) (j r : ℕ) → Freed st a j r → Freed st b j r → SameInUse a b
  freed_fixed a b j r =
      fixed st (λ c. Freed st c j r) st.clock Nothing (Only j) (Only r) Nothing (λ c z. (z.rest, z.executors)) (λ s u. inr (λ q. q))
      (λ i u. at_only j i (λ q. (popped (task_at st j), λ c z. rw q z.stack)))
      (λ i u. at_only r i (λ q c d x y. rw q (x.owner ∙ sym y.owner))) (λ i u. inr (λ q. q)) a b

  pub behind_fixed : (a b : State) (t r j : ℕ) → LockedBehind st a t r j → LockedBehind st b t r j → SameInUse a b
  behind_fixed a b t r j =
      fixed st (λ c. LockedBehind st c t r j) st.clock
      (λ s. (suspended (task_at st j).mode ≡ true) × (served st s ≡ t) × (recharging (server_at st s).phase ≡ false))
      (Only t) (Only r) (λ i. (i ≡ t) ⊎ ((i ≡ j) × (suspended (task_at st j).mode ≡ false)))
      (λ c z. (z.rest, z.executors))
      (λ s u.
      ⊎_elim (λ v. inl v) (λ n. inr (λ z. n (z.0, (z.1, z.2))))
      (at_both
      (at_test (suspended (task_at st j).mode) true
      (λ e.
      at_both
      (at_only t (served st s)
      (λ q. at_test (recharging (server_at st s).phase) false (λ h c d x y. x.rests e s (u, q) h ∙ sym (y.rests e s (u, q) h))))))))
      (λ i u. at_only t i (λ q. (with_mode (Waiting r) (task_at st t), λ c z. rw q z.waits)))
      (λ i u. at_only r i (λ q c d x y. rw q (x.queue ∙ sym y.queue)))
      (λ i u.
      at_either
      (at_only t i (λ q. inl (λ c d x y. rw q (x.nowhere.1 ∙ sym y.nowhere.1))))
      (at_both
      (at_only j i
      (λ q.
      at_test (suspended (task_at st j).mode) false
      (λ e.
      split
      (executing st j)
      (λ h. inl (λ c d x y. rw q ((x.spins_where_executing h).0 ∙ sym (y.spins_where_executing h).0)))
      (λ h. inl (λ c d x y. rw q (x.executes_where_not e h ∙ sym (y.executes_where_not e h)))))))))
      a b

  pub passed_fixed : (a b : State) (j r i : ℕ) → Passed st a j r i → Passed st b j r i → SameInUse a b
  passed_fixed a b j r i =
      fixed st (λ c. Passed st c j r i) st.clock Nothing (λ t. (t ≡ j) ⊎ (t ≡ i)) (Only r) (λ t. (t ≡ j) ⊎ (t ≡ i))
      (λ c z. (z.rest, z.executors)) (λ s u. inr (λ q. q))
      (λ t u.
      at_either
      (at_only j t (λ q. (popped (task_at st j), λ c z. rw q z.releaser_stack)))
      (at_only i t (λ q. (pushed r (with_mode Ready (task_at st i)), λ c z. rw q z.heir_stack))))
      (λ q u. at_only r q (λ e c d x y. rw e (x.owner ∙ sym y.owner)))
      (λ t u.
      at_either
      (at_only j t (λ q. inr (executor_of st j, λ c z. rw q (z.stays_with_releaser, z.releaser_goes_on))))
      (at_only i t (λ q. inr (executor_of st j, λ c z. rw q (z.goes_with_heir, z.heir_goes_on)))))
      a b
