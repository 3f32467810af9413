-- What an accepted event makes of a state, as relations between the state before and the state after: rule H (rules 6.1 to 6.3), the accounts (8.1),
-- and the paper's rules (document 004, section 5.1), each beside our rule's number and with our rule's difference where there is one. Each fixes the
-- whole next state: `Rest` says once what stays, and beside it stand the entries that change, the chain ends and the executors. What is not in use
-- stays in every event (promises.PastKept). Assumes nothing.
use Rattle.std.specs.Prelude.{None, Some, ◌≡◌, true, false, ◌⊎◌, ℕ, suc, ◌+◌, ◌-◌, ◌<◌, ◌≤◌, if◌then◌else◌}
use Rattle.laws.specs.Links.{Leads}
use Rattle.model.specs.declared.Phase.TheVariants.{Idle, Active, Running, Recharging}
use Rattle.model.specs.declared.Mode.TheVariants.{Suspended, Ready, Waiting}
use Rattle.model.specs.declared.Task.{Task}
use Rattle.model.specs.declared.State.{State}
use Rattle.model.specs.declared.Event.{Event}
use Rattle.model.specs.State.{TaskNumber, ServerNumber, ResourceNumber, places, nobody, server_at, task_at, resource_at, here, present, idle, recharging, suspended, next, served, running_at, running_for, executor_of, executing, executes}
use Rattle.model.specs.Sound.{sound}
use Rattle.model.specs.Shape.{Shaped}
use Rattle.model.specs.RuleH.{chosen, runs_in, with_runs}
use Rattle.model.specs.Events.{with_phase, refilled, with_mode, with_owner, pushed, popped, enqueued, dequeued, lent_ticks, runs_out, ticked_task}
use Rattle.theory.specs.Runs.{Goes, executes_in, spins}

-- an accepted event in a sound state
pub record Proper (st : State) (e : Event) : Type 0 where
  pub shaped : Shaped st
  pub is_sound : sound st ≡ true
  pub goes : Goes st e

-- rules 6.1 to 6.3 after an accepted event, for task t, with no choice left; `actor` is the server of rule 6.2 or nobody
pub record RuleH (st after : State) (actor : ServerNumber) (t : TaskNumber) : Type 0 where
  pub keeps : running_for after t (executor_of st t) ≡ true → executor_of after t ≡ executor_of st t
  pub takes : running_for after t (executor_of st t) ≡ false → running_for after t actor ≡ true → executor_of after t ≡ actor
  pub serves : executing after t ≡ true → running_for after t (executor_of after t) ≡ true
  pub some : (s : ServerNumber) → running_for after t s ≡ true → executing after t ≡ true
  pub best :
      running_for after t (executor_of st t) ≡ false → running_for after t actor ≡ false →
      (u : ServerNumber) → running_for after t u ≡ true →
      ((server_at after u).budget < (server_at after (executor_of after t)).budget) ⊎
      (((server_at after u).budget ≡ (server_at after (executor_of after t)).budget) × (executor_of after t ≤ u))

-- rule 8.1, accounts of server i and task i: n ticks are added by who does what when they begin
pub record Accounts (st after : State) (n i : ℕ) : Type 0 where
  pub own : (server_at after i).own ≡ (server_at st i).own + (if executes_in st i i then n else 0)
  pub lent : (server_at after i).lent ≡ (server_at st i).lent + lent_ticks st n i
  pub spin : (server_at after i).spin ≡ (server_at st i).spin + (if spins st i then n else 0)
  pub executed : (task_at after i).executed ≡ (task_at st i).executed + (if executing st i then n else 0)

-- S_s ∈ Λ_t (rule 3.3)
abbrev pub Inherits : State → TaskNumber → ServerNumber → Type 0
Inherits st t s = (here st s ≡ true) × (served st s ≡ t)

-- τ_k → .. → τ_j, in one link or more (rule 3.1)
pub record Blocked (st : State) (k j : TaskNumber) : Type 0 where
  pub links : ℕ
  pub way : Leads places (next st) (suc links) k j

-- τ_s is a waiter of resource r, or blocked by one
pub record Through (st : State) (r : ResourceNumber) (s : TaskNumber) : Type 0 where
  pub waiter : TaskNumber
  pub here_waits : (task_at st waiter).mode ≡ Waiting r
  pub way : (s ≡ waiter) ⊎ Blocked st s waiter

-- what an event touches: nothing, one number
abbrev pub Nothing : ℕ → Type 0
Nothing i = ⊥

abbrev pub Only : ℕ → ℕ → Type 0
Only i j = j ≡ i

-- task t's record is k, but for where it executes, which its executor tells
abbrev pub TaskIs : State → TaskNumber → Task → Type 0
TaskIs st t k = task_at st t ≡ with_runs (runs_in (executor_of st t)) k

-- The rest stays: counts, every server but the given ones, every task but the given ones and but for where it executes, every resource but the given
-- ones; and the clock shows `clock`.
pub record Rest (st after : State) (clock : ℕ) (servers tasks resources : ℕ → Type 0) : Type 0 where
  pub processor_count : after.processors ≡ st.processors
  pub task_count : after.tasks ≡ st.tasks
  pub resource_count : after.resources ≡ st.resources
  pub time : after.clock ≡ clock
  pub server : (s : ServerNumber) → here st s ≡ true → (servers s → ⊥) → server_at after s ≡ server_at st s
  pub task : (t : TaskNumber) → here st t ≡ true → (tasks t → ⊥) → TaskIs after t (task_at st t)
  pub resource : (r : ResourceNumber) → present st r ≡ true → (resources r → ⊥) → resource_at after r ≡ resource_at st r

-- no set Λ changes
abbrev pub EndsStay : State → State → Type 0
EndsStay st after = (s : ServerNumber) → here st s ≡ true → served after s ≡ served st s

-- every task but the given ones executes where it did, or nowhere if it executed nowhere
abbrev pub ExecutorsStay : State → State → (TaskNumber → Type 0) → Type 0
ExecutorsStay st after tasks = (t : TaskNumber) → here st t ≡ true → (tasks t → ⊥) → executor_of after t ≡ executor_of st t

abbrev pub ExecutesNowhere : State → TaskNumber → Type 0
ExecutesNowhere st t = (executing st t ≡ false) × (executor_of st t ≡ nobody)

-- rule 7.3, the paper's dispatch a) and b): the server is Running, and spins where the task that it serves executes already, and executes it where not
pub record Dispatched (st after : State) (s : ServerNumber) : Type 0 where
  pub rest : Rest st after st.clock (Only s) Nothing Nothing
  pub runs : server_at after s ≡ with_phase Running (server_at st s)
  pub ends : EndsStay st after
  pub executors : ExecutorsStay st after (Only (served st s))
  pub spins_where_executing :
      executing st (served st s) ≡ true → (spins after s ≡ true) × (executor_of after (served st s) ≡ executor_of st (served st s))
  pub executes_where_not : executing st (served st s) ≡ false → (executes after s ≡ true) × (executor_of after (served st s) ≡ s)

-- rule 7.4, preemption: the server is Active. Of a spinning one nothing moves; the task of an executing one goes on in the best Running server of its set, or
-- nowhere
pub record Preempted (st after : State) (s : ServerNumber) : Type 0 where
  pub rest : Rest st after st.clock (Only s) Nothing Nothing
  pub stops : server_at after s ≡ with_phase Active (server_at st s)
  pub ends : EndsStay st after
  pub executors : ExecutorsStay st after (λ t. executor_of st t ≡ s)
  pub goes_on : (t : TaskNumber) → here st t ≡ true → executor_of st t ≡ s → executor_of after t ≡ chosen after t

-- rule 7.5, the paper's recharging, as time passes: every Running server spends, each that is exhausted recharges, and what it executed goes on as under preemption
pub record Elapsed (st after : State) (n : ℕ) : Type 0 where
  pub rest : Rest st after (st.clock + n) (λ s. running_at st s ≡ true) (λ t. executing st t ≡ true) Nothing
  pub spends : (s : ServerNumber) → running_at st s ≡ true → (server_at after s).budget ≡ (server_at st s).budget - n
  pub keeps :
      (s : ServerNumber) → here st s ≡ true →
      ((server_at after s).deadline ≡ (server_at st s).deadline) ×
      ((server_at after s).quota ≡ (server_at st s).quota) ×
      ((server_at after s).period ≡ (server_at st s).period)
  pub recharges : (s : ServerNumber) → runs_out st n s ≡ true → (server_at after s).phase ≡ Recharging
  pub stays : (s : ServerNumber) → here st s ≡ true → runs_out st n s ≡ false → (server_at after s).phase ≡ (server_at st s).phase
  pub accounts : (i : ℕ) → here st i ≡ true → Accounts st after n i
  pub ticked : (t : TaskNumber) → here st t ≡ true → TaskIs after t (ticked_task st n t)
  pub ends : EndsStay st after
  pub executors : ExecutorsStay st after (λ t. runs_out st n (executor_of st t) ≡ true)
  pub goes_on : (t : TaskNumber) → here st t ≡ true → runs_out st n (executor_of st t) ≡ true → executor_of after t ≡ chosen after t

-- rule 7.6, which the paper leaves to the reservation algorithm: the server is Active, or Idle if the task that it serves sleeps, with budget Q and
-- deadline clock + P
pub record Recharged (st after : State) (s : ServerNumber) : Type 0 where
  pub rest : Rest st after st.clock (Only s) Nothing Nothing
  pub awake : suspended (task_at st (served st s)).mode ≡ false → server_at after s ≡ refilled Active st.clock (server_at st s)
  pub asleep : suspended (task_at st (served st s)).mode ≡ true → server_at after s ≡ refilled Idle st.clock (server_at st s)
  pub ends : EndsStay st after
  pub executors : ExecutorsStay st after Nothing

-- rule 7.2, suspension: the whole set rests; its Recharging servers are left alone
pub record Slept (st after : State) (j : TaskNumber) : Type 0 where
  pub rest : Rest st after st.clock (λ s. (served st s ≡ j) × (recharging (server_at st s).phase ≡ false)) (Only j) Nothing
  pub set : (s : ServerNumber) → Inherits st j s → recharging (server_at st s).phase ≡ false → server_at after s ≡ with_phase Idle (server_at st s)
  pub sleeps : TaskIs after j (with_mode Suspended (task_at st j))
  pub ends : EndsStay st after
  pub executors : ExecutorsStay st after (Only j)
  pub nowhere : ExecutesNowhere after j

-- rule 7.1, waking: the Idle servers of the set are Active again, with budget Q and deadline clock + P
pub record Woken (st after : State) (j : TaskNumber) : Type 0 where
  pub rest : Rest st after st.clock (λ s. (served st s ≡ j) × (idle (server_at st s).phase ≡ true)) (Only j) Nothing
  pub set : (s : ServerNumber) → Inherits st j s → idle (server_at st s).phase ≡ true → server_at after s ≡ refilled Active st.clock (server_at st s)
  pub wakes : TaskIs after j (with_mode Ready (task_at st j))
  pub ends : EndsStay st after
  pub executors : ExecutorsStay st after Nothing

-- rule 7.7, locking, the resource free: the task owns it, on top of its stack, and whoever executed goes on
pub record Granted (st after : State) (t : TaskNumber) (r : ResourceNumber) : Type 0 where
  pub rest : Rest st after st.clock Nothing (Only t) (Only r)
  pub owner : resource_at after r ≡ with_owner (Some (record { 0 = t })) (resource_at st r)
  pub stack : TaskIs after t (pushed r (task_at st t))
  pub ends : EndsStay st after
  pub executors : ExecutorsStay st after Nothing

-- rule 7.8, locking and inner locking, the resource occupied: the locker waits, last in the queue, and executes nowhere. The task τ_j at the chain's end
-- inherits every server that ended at the locker; no other server changes hands. If τ_j executes already, the locker's executor spins; if not, it
-- executes τ_j. Our rule's difference from the paper: behind a suspended end those servers become Idle, Recharging ones left alone.
pub record LockedBehind (st after : State) (t : TaskNumber) (r : ResourceNumber) (j : TaskNumber) : Type 0 where
  pub rest :
      Rest st after st.clock
      (λ s. (suspended (task_at st j).mode ≡ true) × (served st s ≡ t) × (recharging (server_at st s).phase ≡ false))
      (Only t)
      (Only r)
  pub waits : TaskIs after t (with_mode (Waiting r) (task_at st t))
  pub queue : resource_at after r ≡ enqueued t (resource_at st r)
  pub end : served after t ≡ j
  pub unblocked : places ≤ next after j
  pub inherits : (s : ServerNumber) → here st s ≡ true → served st s ≡ t → served after s ≡ j
  pub others : (s : ServerNumber) → here st s ≡ true → (served st s ≡ t → ⊥) → served after s ≡ served st s
  pub nowhere : ExecutesNowhere after t
  pub executors : ExecutorsStay st after (λ u. (u ≡ t) ⊎ ((u ≡ j) × (suspended (task_at st j).mode ≡ false)))
  pub spins_where_executing : executing st j ≡ true → (executor_of after j ≡ executor_of st j) × (spins after (executor_of st t) ≡ true)
  pub executes_where_not : suspended (task_at st j).mode ≡ false → executing st j ≡ false → executor_of after j ≡ executor_of st t
  pub rests :
      suspended (task_at st j).mode ≡ true → (s : ServerNumber) → Inherits st t s → recharging (server_at st s).phase ≡ false →
      server_at after s ≡ with_phase Idle (server_at st s)
  pub rests_behind_sleeper :
      suspended (task_at st j).mode ≡ true → (s : ServerNumber) → Inherits after j s → ((server_at after s).phase ≡ Idle) ⊎ ((server_at after s).phase ≡ Recharging)

-- rule 7.9, unlocking with nobody waiting: nothing but the resource and the stack changes
pub record Freed (st after : State) (j : TaskNumber) (r : ResourceNumber) : Type 0 where
  pub rest : Rest st after st.clock Nothing (Only j) (Only r)
  pub owner : resource_at after r ≡ with_owner None (resource_at st r)
  pub stack : TaskIs after j (popped (task_at st j))
  pub ends : EndsStay st after
  pub executors : ExecutorsStay st after Nothing

-- rule 7.10, inner unlocking, by whole chains: the resource is the first waiter's, on top of its stack, and the queue moves on by one. What reached the
-- releaser τ_j through this resource goes to the heir τ_i, the rest stays. The releaser's executor goes with the one of the two that it serves now;
-- the other one goes on in the best Running server of its set, or nowhere.
pub record Passed (st after : State) (j : TaskNumber) (r : ResourceNumber) (i : TaskNumber) : Type 0 where
  pub rest : Rest st after st.clock Nothing (λ t. (t ≡ j) ⊎ (t ≡ i)) (Only r)
  pub owner : resource_at after r ≡ with_owner (Some (record { 0 = i })) (dequeued (resource_at st r))
  pub heir_stack : TaskIs after i (pushed r (with_mode Ready (task_at st i)))
  pub releaser_stack : TaskIs after j (popped (task_at st j))
  pub through : (s : ServerNumber) → here st s ≡ true → Through st r s → served after s ≡ i
  pub apart : (s : ServerNumber) → here st s ≡ true → (Through st r s → ⊥) → served after s ≡ served st s
  pub executors : ExecutorsStay st after (λ t. (t ≡ j) ⊎ (t ≡ i))
  pub goes_with_heir : running_for after i (executor_of st j) ≡ true → executor_of after i ≡ executor_of st j
  pub heir_goes_on : running_for after i (executor_of st j) ≡ false → executor_of after i ≡ chosen after i
  pub stays_with_releaser : running_for after j (executor_of st j) ≡ true → executor_of after j ≡ executor_of st j
  pub releaser_goes_on : running_for after j (executor_of st j) ≡ false → executor_of after j ≡ chosen after j

-- rule 7.10, the paper's unlocking (3), where it was the releaser's only resource: Λ_i ← Λ_i ∪ Λ_j \ S_j, Λ_j ← S_j
pub record HandedOver (st after : State) (j : TaskNumber) (r : ResourceNumber) (i : TaskNumber) : Type 0 where
  pub passed : Passed st after j r i
  pub own : served after j ≡ j
  pub inherited : (s : ServerNumber) → here st s ≡ true → served st s ≡ j → (s ≡ j → ⊥) → served after s ≡ i
  pub others : (s : ServerNumber) → here st s ≡ true → (served st s ≡ j → ⊥) → served after s ≡ served st s
