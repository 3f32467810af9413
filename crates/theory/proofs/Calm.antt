-- Soundness in the parts in which it is kept. `Calm` is all of `Loose` but who executes: counts, the clock, one server at a time by whether the task
-- that it serves sleeps (`Fits`), the clauses on locks (`Locks`), and what tasks executed. Rule H restores the two clauses on who executes from any
-- calm, shaped state, once (`settled_loose`), so each event owes only that its change is calm. Chains, stacks and queues see of a state the counts, the
-- resources, and what tasks hold and want; states that look the same to them are `Alike`, and `Locks` and every chain end are the same in them. The six
-- events of tasks and servers and rule H make states that are alike. Assumes nothing.
use Rattle.theory.proofs.Kit.{◌≡◌, refl, sym, ap, ◌∙◌, true, Bool, ◌⊎◌, ⊎_elim, ℕ, ◌+◌, ◌<◌, ◌≤◌, arith, get_or, length, eq-eqb}
use Rattle.laws.proofs.Standing.{same_standing}
use Rattle.laws.proofs.Cases.{and_right, and_both}
use Rattle.theory.proofs.Declared.{TaskNo, Task, State, Server}
use Rattle.model.specs.State.{no_resource, task_at, resource_at, in_set, here, present, declares, waiting, awaited, owned, owner_no, owner_of, next, served, server_at, idle, recharging, suspended, running_at, running_for, executor_of, executing}
use Rattle.model.specs.RuleH.{settled}
use Rattle.model.specs.Sound.{clock_limit, held_at, queued_at}
use Rattle.model.specs.Shape.{Shaped}
use Rattle.model.proofs.Chain.{same_served, Open, here_below, served_below}
use Rattle.model.proofs.Sound.{Each, EachResource, Declaration, Unqueued, Executor, Serves, Loose}
use Rattle.model.proofs.Room.{Stacks, Queues, loose_stacks, loose_queues}
use Rattle.model.proofs.RuleH.{settled_here, settled_served, settled_serves, settled_some, settled_task_lem, settled_field}
use Rattle.theory.proofs.Frames.{heads_here, heads_present}

pub record Locks (st : State) : Type 0 where
  pub declaration : Each st (Declaration st)
  pub stacks : Stacks st
  pub queues : Queues st
  pub unqueued : EachResource st (Unqueued st)
  pub opens : Each st (Open st)

-- tasks that hold and want the same
pub record Same (k l : Task) : Type 0 where
  pub wants : awaited k.mode ≡ awaited l.mode
  pub waits : waiting k.mode ≡ waiting l.mode
  pub may : k.declared ≡ l.declared
  pub deep : k.depth ≡ l.depth
  pub has : k.held ≡ l.held

pub same_self : (k : Task) → Same k k
same_self k = record { wants = refl; waits = refl; may = refl; deep = refl; has = refl }

-- states whose tasks do, and whose resources are the same
pub record Alike (a b : State) : Type 0 where
  pub tasks : a.tasks ≡ b.tasks
  pub resources : a.resources ≡ b.resources
  pub resource : a.resource ≡ b.resource
  pub task : (t : ℕ) → Same (task_at a t) (task_at b t)

module _ (a b : State) (same : Alike a b) where
  pub alike_here : (i : ℕ) → here a i ≡ here b i
  alike_here = heads_here a b same.tasks same.resources

  alike_present : (r : ℕ) → present a r ≡ present b r
  alike_present = heads_present a b same.tasks same.resources

  alike_resource : (r : ℕ) → resource_at a r ≡ resource_at b r
  alike_resource r = ap (λ l. get_or l r no_resource) same.resource

  alike_owner : (r : ℕ) → owner_of a r ≡ owner_of b r
  unfolding owner_of
  alike_owner r = rw (alike_present r, alike_resource r, alike_here (owner_no (resource_at b r).owner))

  pub alike_next : (t : ℕ) → next a t ≡ next b t
  unfolding next
  alike_next t = rw (alike_here t, (same.task t).wants, alike_owner (awaited (task_at b t).mode))

  pub alike_served : (t : ℕ) → served a t ≡ served b t
  alike_served = same_served a b alike_next

  alike_declares : (t r : ℕ) → declares a t r ≡ declares b t r
  unfolding declares
  alike_declares t r = ap (λ d. in_set d r) (same.task t).may

  pub alike_locks : Locks b → Locks a
  alike_locks l = record {
    declaration = λ i u. rw (same.resources, (same.task i).may) (l.declaration i (sym (alike_here i) ∙ u));
    stacks =
        same_standing
        (λ r. sym (alike_present r)) (λ t. sym (alike_here t)) (λ t. sym (same.task t).deep) (λ t j. ap (λ h. get_or h j 0) (sym (same.task t).has))
        (λ r. ap (λ x. owned x.owner) (sym (alike_resource r))) (λ r. ap (λ x. owner_no x.owner) (sym (alike_resource r)))
        (λ t r. sym (alike_declares t r))
        l.stacks;
    queues =
        same_standing
        (λ t. sym (alike_here t)) (λ r. sym (alike_present r)) (λ r. ap (λ x. x.waiting) (sym (alike_resource r)))
        (λ r j. ap (λ x. (get_or {A = TaskNo} x.queue j (record { 0 = 0 })).0) (sym (alike_resource r)))
        (λ t. sym (same.task t).waits) (λ t. sym (same.task t).wants) (λ r t. sym (alike_declares t r))
        l.queues;
    unqueued = λ r u. rw (alike_resource r) (l.unqueued r (sym (alike_present r) ∙ u));
    opens = λ i u. rw (alike_served i, alike_next (served b i)) (l.opens i (sym (alike_here i) ∙ u));
  }

-- one server, by the clock and by whether the task that it serves is suspended
pub record Fits (clock : ℕ) (asleep : Bool) (x : Server) : Type 0 where
  pub reserved : (1 ≤ x.quota) × (x.quota ≤ x.period) × (x.period ≤ 1000000)
  pub due : x.deadline ≤ clock + x.period
  pub within : x.budget ≤ x.quota
  pub empty : (x.budget ≡ 0 → recharging x.phase ≡ true) × (recharging x.phase ≡ true → x.budget ≡ 0)
  pub idles : (recharging x.phase ≡ true) ⊎ ((idle x.phase ≡ true → asleep ≡ true) × (asleep ≡ true → idle x.phase ≡ true))
  pub spent : x.own + x.lent + x.spin ≤ clock

-- the same server before a task that sleeps otherwise
pub fits_anew
    : (clock : ℕ) (a b : Bool) (x : Server) → Fits clock a x
    → (recharging x.phase ≡ true) ⊎ ((idle x.phase ≡ true → b ≡ true) × (b ≡ true → idle x.phase ≡ true))
    → Fits clock b x
fits_anew clock a b x f i = record { reserved = f.reserved; due = f.due; within = f.within; empty = f.empty; idles = i; spent = f.spent }

abbrev pub Counts : ℕ → ℕ → ℕ → Type 0
Counts processors tasks resources = (1 ≤ processors) × (processors ≤ 8) × (1 ≤ tasks) × (tasks ≤ 16) × (resources ≤ 16)

-- the task that server s serves is suspended
abbrev pub asleep : State → ℕ → Bool
asleep st s = suspended (task_at st (served st s)).mode

pub record Calm (st : State) : Type 0 where
  pub counts : Counts st.processors st.tasks st.resources
  pub time : st.clock ≤ clock_limit
  pub servers : Each st (λ i. Fits st.clock (asleep st i) (server_at st i))
  pub locks : Locks st
  pub executed : Each st (λ i. (task_at st i).executed ≤ st.clock)

pub loose_calm : (st : State) → Loose st → Calm st
loose_calm st h = record {
  counts = (h.processors_least, h.processors_most, h.tasks_least, h.tasks_most, h.resources_most);
  time = h.clock_most;
  servers = λ i u. record {
    reserved = h.reservation i u;
    due = h.deadline i u;
    within = h.budget i u;
    empty = h.empty i u;
    idles = h.idles i u;
    spent = (h.accounts i u).1;
  };
  locks = record {
    declaration = h.declaration;
    stacks = loose_stacks st h;
    queues = loose_queues st h;
    unqueued = h.unqueued;
    opens = h.opens;
  };
  executed = λ i u. (h.accounts i u).0;
}

calm_loose : (st : State) → Calm st → Each st (Executor st) → Each st (Serves st) → Loose st
unfolding held_at queued_at
calm_loose st h e s = record {
  processors_least = h.counts.0;
  processors_most = h.counts.1;
  tasks_least = h.counts.2;
  tasks_most = h.counts.3;
  resources_most = h.counts.4;
  clock_most = h.time;
  reservation = λ i u. (h.servers i u).reserved;
  declaration = h.locks.declaration;
  deadline = λ i u. (h.servers i u).due;
  budget = λ i u. (h.servers i u).within;
  empty = λ i u. (h.servers i u).empty;
  stack = h.locks.stacks.filled;
  queue = h.locks.queues.filled;
  owner = h.locks.stacks.inside;
  wait = h.locks.queues.inside;
  agree = λ t u. (λ r p. h.locks.stacks.agree t r u p, λ r p. h.locks.queues.agree r t p u);
  unqueued = h.locks.unqueued;
  declared = λ t u r p. ⊎_elim (h.locks.stacks.allowed t r u p) (h.locks.queues.allowed r t p u);
  opens = h.locks.opens;
  idles = λ i u. (h.servers i u).idles;
  executor = e;
  serves = s;
  accounts = λ i u. (h.executed i u, (h.servers i u).spent);
}

module _ (old st : State) (acting : ℕ) where
  abbrev after : State
  after = settled old acting st

  settled_alike : Alike after st
  unfolding settled
  settled_alike = record {
    tasks = refl;
    resources = refl;
    resource = refl;
    task = settled_task_lem Same same_self (λ x k. record { wants = refl; waits = refl; may = refl; deep = refl; has = refl }) old st acting;
  }

  settled_asleep : (s : ℕ) → asleep after s ≡ asleep st s
  settled_asleep s =
      settled_field (λ k. suspended k.mode) (λ x k. refl) old st acting (served after s)
      ∙ ap (λ t. suspended (task_at st t).mode) (settled_served old st acting s)

  settled_calm : Calm st → Calm after
  unfolding settled
  settled_calm c = record {
    counts = c.counts;
    time = c.time;
    servers = λ i u. rw (settled_asleep i) (c.servers i (sym (settled_here old st acting i) ∙ u));
    locks = alike_locks after st settled_alike c.locks;
    executed = λ i u. rw (settled_field (λ k. k.executed) (λ x k. refl) old st acting i) (c.executed i (sym (settled_here old st acting i) ∙ u));
  }

  -- rule H makes a calm state loose
  pub settled_loose : Shaped st → Calm st → Loose after
  unfolding executing executor_of running_for running_at
  settled_loose s c =
      calm_loose after (settled_calm c)
      (λ t u p.
      settled_serves old st acting t (sym (settled_here old st acting t) ∙ u) (omega (arith, here_below after t u, s.tasks)) (and_both (here after t) _ u p))
      (λ i u r.
      let t = served after i in
      let k : t < length st.task = omega (arith, served_below after i (here_below after i u), s.tasks) in
      and_right (here after t) _ (settled_some old st acting t i k (and_both (running_at after i) _ r (eq-eqb t t refl))))
