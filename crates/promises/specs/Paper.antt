-- The paper's rules (document 004, section 5.1), as statements about every accepted event in a sound state; where ours differ, by ours. Each fixes the
-- whole next state. What a rule says of the state before and after stands under its name in theory/specs/Rules.antt. Assumes nothing.
use Rattle.std.specs.Prelude.{◌≡◌, true, false, ◌⊎◌, ℕ, ◌<◌, ◌≤◌}
use Rattle.model.specs.declared.State.{State}
use Rattle.model.specs.declared.Phase.TheVariants.{Idle}
use Rattle.model.specs.declared.Event.{Event}
use Rattle.model.specs.declared.Event.TheVariants.{Wake, Suspend, Dispatch, Preempt, Elapse, Recharge, Lock, Unlock}
use Rattle.model.specs.State.{TaskNumber, ServerNumber, ResourceNumber, places, server_at, task_at, resource_at, here, suspended, owned, owner_no, next, served}
use Rattle.model.specs.Sound.{sound}
use Rattle.model.specs.Events.{first_waiter}
use Rattle.model.specs.Step.{stepped}
use Rattle.theory.specs.Runs.{SameInUse}
use Rattle.theory.specs.Rules.{Proper, Inherits, Blocked, Dispatched, Preempted, Elapsed, Recharged, Slept, Woken, Granted, LockedBehind, Freed, Passed, HandedOver}

abbrev pub state_afterwards : State → Event → State
state_afterwards st e = (stepped st e).state

-- rules 3.1 to 3.3: Λ_j = { S_k | τ_k → .. → τ_j } ∪ { S_j }, for a τ_j that is not blocked; in any state
abbrev pub Lambda : Type 0
Lambda =
    (st : State) (j k : TaskNumber) → here st k ≡ true → places ≤ next st j →
    (Inherits st j k → (k ≡ j) ⊎ Blocked st k j) × ((k ≡ j) ⊎ Blocked st k j → Inherits st j k)

-- rule 7.7, locking, the resource free: the task owns it, and whoever executed goes on executing
abbrev pub LockingFree : Type 0
LockingFree =
    (st : State) (t : TaskNumber) (r : ResourceNumber) → Proper st (Lock (record { 0 = t }) r) → owned (resource_at st r).owner ≡ false →
    Granted st (state_afterwards st (Lock (record { 0 = t }) r)) t r

-- rule 7.8, locking and inner locking, the resource occupied: the task at the end of the owner's chain inherits every server that ended at the locker
abbrev pub LockingOccupied : Type 0
LockingOccupied =
    (st : State) (t : TaskNumber) (r : ResourceNumber) → Proper st (Lock (record { 0 = t }) r) → owned (resource_at st r).owner ≡ true →
    LockedBehind st (state_afterwards st (Lock (record { 0 = t }) r)) t r (served st (owner_no (resource_at st r).owner))

-- rule 7.4, preemption: of a spinning server nothing moves; the task of an executing one goes on in the best Running server of its set, or nowhere
abbrev pub Preemption : Type 0
Preemption = (st : State) (s : ServerNumber) → Proper st (Preempt (record { 0 = s })) → Preempted st (state_afterwards st (Preempt (record { 0 = s }))) s

-- rule 7.5, recharging: each exhausted server recharges; what it executed goes on as under preemption
abbrev pub RechargingRule : Type 0
RechargingRule = (st : State) (n : ℕ) → Proper st (Elapse n) → Elapsed st (state_afterwards st (Elapse n)) n

-- rule 7.6, the end of it, on which the paper is silent: a full budget, the deadline one period from now, Active, or Idle behind a suspended task
abbrev pub Refilling : Type 0
Refilling = (st : State) (s : ServerNumber) → Proper st (Recharge (record { 0 = s })) → Recharged st (state_afterwards st (Recharge (record { 0 = s }))) s

-- rule 7.3, dispatch a) and b): the server spins where the task that it serves executes already, and executes it where not
abbrev pub Dispatching : Type 0
Dispatching = (st : State) (s : ServerNumber) → Proper st (Dispatch (record { 0 = s })) → Dispatched st (state_afterwards st (Dispatch (record { 0 = s }))) s

-- rule 7.10, unlocking (3): τ_j gives up its only resource to the first waiter τ_i: Λ_i ← Λ_i ∪ Λ_j \ S_j, Λ_j ← S_j
abbrev pub Unlocking : Type 0
Unlocking =
    (st : State) (j : TaskNumber) (r : ResourceNumber) → Proper st (Unlock (record { 0 = j }) r) → 0 < (resource_at st r).waiting → (task_at st j).depth ≡ 1 →
    HandedOver st (state_afterwards st (Unlock (record { 0 = j }) r)) j r (first_waiter (resource_at st r))

-- rule 7.10, inner unlocking, and every unlocking with a queue: what reached the releaser through this resource goes to the heir, the rest stays
abbrev pub InnerUnlocking : Type 0
InnerUnlocking =
    (st : State) (j : TaskNumber) (r : ResourceNumber) → Proper st (Unlock (record { 0 = j }) r) → 0 < (resource_at st r).waiting →
    Passed st (state_afterwards st (Unlock (record { 0 = j }) r)) j r (first_waiter (resource_at st r))

-- rule 7.9, unlocking with nobody waiting: nothing but the resource and the stack changes
abbrev pub UnlockingFree : Type 0
UnlockingFree =
    (st : State) (j : TaskNumber) (r : ResourceNumber) → Proper st (Unlock (record { 0 = j }) r) → (resource_at st r).waiting ≡ 0 →
    Freed st (state_afterwards st (Unlock (record { 0 = j }) r)) j r

-- rule 7.2, suspension: the whole set rests, but for its Recharging servers
abbrev pub Suspension : Type 0
Suspension = (st : State) (j : TaskNumber) → Proper st (Suspend (record { 0 = j })) → Slept st (state_afterwards st (Suspend (record { 0 = j }))) j

-- rule 7.1, waking: the whole set is Active again, but for its Recharging servers
abbrev pub Waking : Type 0
Waking = (st : State) (j : TaskNumber) → Proper st (Wake (record { 0 = j })) → Woken st (state_afterwards st (Wake (record { 0 = j }))) j

-- rules 4.12, 4.13, the paper's Lemma 2: every server has one task to serve that is not blocked, and is Idle only behind one that suspended itself
abbrev pub OneToServe : Type 0
OneToServe =
    (st : State) → sound st ≡ true → (s : ServerNumber) → here st s ≡ true →
    (places ≤ next st (served st s)) × ((server_at st s).phase ≡ Idle → suspended (task_at st (served st s)).mode ≡ true)

-- Each rule fixes the whole next state: two states that it allows after one and the same state differ in entries not in use only, and what lies there
-- stays in every event (Demand1.PastKept)
pub record RulesFix : Type 0 where
  pub dispatching : (st a b : State) (s : ServerNumber) → Dispatched st a s → Dispatched st b s → SameInUse a b
  pub preemption : (st a b : State) (s : ServerNumber) → Preempted st a s → Preempted st b s → SameInUse a b
  pub recharging : (st a b : State) (n : ℕ) → Elapsed st a n → Elapsed st b n → SameInUse a b
  pub refilling : (st a b : State) (s : ServerNumber) → Recharged st a s → Recharged st b s → SameInUse a b
  pub suspension : (st a b : State) (j : TaskNumber) → Slept st a j → Slept st b j → SameInUse a b
  pub waking : (st a b : State) (j : TaskNumber) → Woken st a j → Woken st b j → SameInUse a b
  pub locking_free : (st a b : State) (t : TaskNumber) (r : ResourceNumber) → Granted st a t r → Granted st b t r → SameInUse a b
  pub locking_occupied : (st a b : State) (t : TaskNumber) (r : ResourceNumber) (j : TaskNumber) → LockedBehind st a t r j → LockedBehind st b t r j → SameInUse a b
  pub unlocking_free : (st a b : State) (j : TaskNumber) (r : ResourceNumber) → Freed st a j r → Freed st b j r → SameInUse a b
  pub unlocking : (st a b : State) (j : TaskNumber) (r : ResourceNumber) (i : TaskNumber) → Passed st a j r i → Passed st b j r i → SameInUse a b
