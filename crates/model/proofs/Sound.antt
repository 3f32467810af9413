-- Soundness as facts: each named test of specs/Sound.antt with what it says, a law each way (`Reflects`), and the record of them all.
-- What stands above uses these facts, never the tests' text. Assumes nothing.
use mathlib.Core.Path.{◌≡◌}
use mathlib.Core.Bool.{Bool, true}
use mathlib.Core.Logic.{◌⊎◌}
use Prim.Native.Nat.{ℕ, ◌+◌, ◌^◌, ◌<◌, ◌≤◌}
use native.Mathlib.Omega.{arith}
use lib.Dec.{eqb}
use lib.ListN.{get_or}
use Rattle.laws.specs.Tests.{bit}
use Rattle.laws.specs.Loops.{count_to, all_to}
use Rattle.laws.proofs.Reflect.{Reflects, reflects_self, reflects_le, reflects_lt, reflects_eq, reflects_change, reflects_not, reflects_and, reflects_or, reflects_implies, reflects_iff, reflects_all}
use Rattle.model.specs.declared.State.{State}
use Rattle.model.specs.State.{places, server_at, task_at, resource_at, here, present, declares, idle, recharging, suspended, waiting, awaited, owned, owner_no, placed, executor_number, served, running_at, running_for}
use Rattle.model.specs.Sound.{if_here, each, if_present, each_resource, counts_fit, quota_fits, clock_limit, sizes_fit, reservation_fits, declaration_fits, deadline_fits, budget_fits, empty_recharges, seated, held_at, queued_at, stack_place_fits, stack_fits, queue_place_fits, queue_fits, owner_fits, wait_fits, stack_agrees, queue_agrees, entries_agree, unowned_unqueued, used_declared, all_declared, chain_open, idle_fits, executor_fits, served_executes, accounts_fit, loose, sound}
use Rattle.model.proofs.Chain.{here_below, present_below, Open}

-- of each task and server in use; of each resource in use
abbrev pub Each : State → (ℕ → Type 0) → Type 0
Each st P = (i : ℕ) → here st i ≡ true → P i

abbrev pub EachResource : State → (ℕ → Type 0) → Type 0
EachResource st P = (r : ℕ) → present st r ≡ true → P r

-- a test over the places that asks only of those in use, where `used` says which are
each_by
    : (used q : ℕ → Bool) (P : ℕ → Type 0)
    → ((i : ℕ) → used i ≡ true → i < places)
    → ((i : ℕ) → Reflects (q i) (used i ≡ true → P i))
    → Reflects (all_to places q) ((i : ℕ) → used i ≡ true → P i)
each_by used q P below r =
    reflects_change
    (reflects_all places q (λ i. used i ≡ true → P i) (λ i l. r i))
    (λ h i u. h i (below i u) u)
    (λ h i l u. h i u)

pub each_fact : (st : State) (p : ℕ → Bool) (P : ℕ → Type 0) → ((i : ℕ) → Reflects (p i) (P i)) → Reflects (each st p) (Each st P)
unfolding each if_here
each_fact st p P r = each_by (here st) _ P (here_below st) (λ i. reflects_implies (reflects_self (here st i)) (r i))

pub each_resource_fact
    : (st : State) (p : ℕ → Bool) (P : ℕ → Type 0) → ((r : ℕ) → Reflects (p r) (P r)) → Reflects (each_resource st p) (EachResource st P)
unfolding each_resource if_present
each_resource_fact st p P r = each_by (present st) _ P (present_below st) (λ i. reflects_implies (reflects_self (present st i)) (r i))

-- the limits that a table and a state share: counts, and a quota with its period
abbrev pub Counts : ℕ → ℕ → ℕ → Type 0
Counts processors tasks resources = ((((1 ≤ processors) × (processors ≤ 8)) × (1 ≤ tasks)) × (tasks ≤ 16)) × (resources ≤ 16)

pub counts_fact : (processors tasks resources : ℕ) → Reflects (counts_fit processors tasks resources) (Counts processors tasks resources)
counts_fact processors tasks resources =
    reflects_and (reflects_and (reflects_and (reflects_and (reflects_le _ _) (reflects_le _ _)) (reflects_le _ _)) (reflects_le _ _)) (reflects_le _ _)

abbrev pub Quota : ℕ → ℕ → Type 0
Quota quota period = (1 ≤ quota) × (quota ≤ period) × (period ≤ 1000000)

pub quota_fact : (quota period : ℕ) → Reflects (quota_fits quota period) (Quota quota period)
quota_fact quota period =
    reflects_change
    (reflects_and (reflects_and (reflects_le _ _) (reflects_le _ _)) (reflects_le _ _))
    (λ h. (h.0.0, h.0.1, h.1))
    (λ h. ((h.0, h.1), h.2))

abbrev pub Sizes : State → Type 0
Sizes st = Counts st.processors st.tasks st.resources × (st.clock ≤ clock_limit)

pub sizes_fact : (st : State) → Reflects (sizes_fit st) (Sizes st)
unfolding sizes_fit
sizes_fact st = reflects_and (counts_fact st.processors st.tasks st.resources) (reflects_le _ _)

module _ (st : State) (i : ℕ) where
  -- rule 1.4
  abbrev pub Reservation : Type 0
  Reservation = Quota (server_at st i).quota (server_at st i).period

  pub reservation_fact : Reflects (reservation_fits st i) Reservation
  unfolding reservation_fits
  reservation_fact = quota_fact (server_at st i).quota (server_at st i).period

  abbrev pub Declaration : Type 0
  Declaration = (task_at st i).declared < 2 ^ st.resources

  pub declaration_fact : Reflects (declaration_fits st i) Declaration
  unfolding declaration_fits
  declaration_fact = reflects_lt _ _

  abbrev pub Deadline : Type 0
  Deadline = (server_at st i).deadline ≤ st.clock + (server_at st i).period

  pub deadline_fact : Reflects (deadline_fits st i) Deadline
  unfolding deadline_fits
  deadline_fact = reflects_le _ _

  abbrev pub Budget : Type 0
  Budget = (server_at st i).budget ≤ (server_at st i).quota

  pub budget_fact : Reflects (budget_fits st i) Budget
  unfolding budget_fits
  budget_fact = reflects_le _ _

  -- budget 0 where Recharging, and back
  abbrev pub Empty : Type 0
  Empty = ((server_at st i).budget ≡ 0 → recharging (server_at st i).phase ≡ true) × (recharging (server_at st i).phase ≡ true → (server_at st i).budget ≡ 0)

  pub empty_fact : Reflects (empty_recharges st i) Empty
  unfolding empty_recharges
  empty_fact = reflects_iff (reflects_eq _ _) (reflects_self _)

  -- a stack or queue within its array, its entries in use
  abbrev pub Stack : Type 0
  Stack = ((task_at st i).depth ≤ places) × ((j : ℕ) → j < places → j < (task_at st i).depth → present st (get_or (task_at st i).held j 0) ≡ true)

  pub stack_fact : Reflects (stack_fits st i) Stack
  unfolding stack_fits stack_place_fits
  stack_fact = reflects_and (reflects_le _ _) (reflects_all places _ _ (λ j l. reflects_implies (reflects_lt _ _) (reflects_self _)))

  abbrev pub Queue : Type 0
  Queue =
      ((resource_at st i).waiting ≤ places) ×
      ((j : ℕ) → j < places → j < (resource_at st i).waiting → here st (get_or (resource_at st i).queue j (record { 0 = 0 })).0 ≡ true)

  pub queue_fact : Reflects (queue_fits st i) Queue
  unfolding queue_fits queue_place_fits
  queue_fact = reflects_and (reflects_le _ _) (reflects_all places _ _ (λ j l. reflects_implies (reflects_lt _ _) (reflects_self _)))

  abbrev pub Owned : Type 0
  Owned = owned (resource_at st i).owner ≡ true → here st (owner_no (resource_at st i).owner) ≡ true

  pub owner_fact : Reflects (owner_fits st i) Owned
  unfolding owner_fits
  owner_fact = reflects_implies (reflects_self _) (reflects_self _)

  abbrev pub Wait : Type 0
  Wait = waiting (task_at st i).mode ≡ true → present st (awaited (task_at st i).mode) ≡ true

  pub wait_fact : Reflects (wait_fits st i) Wait
  unfolding wait_fits
  wait_fact = reflects_implies (reflects_self _) (reflects_self _)

  -- each resource once in the owner's stack, each waiter once in its queue, and nothing else in either
  abbrev pub Agree : Type 0
  Agree =
      EachResource st (λ r. count_to places (held_at st i r) ≡ bit (eqb (owner_no (resource_at st r).owner) i)) ×
      EachResource st (λ r. count_to places (queued_at st r i) ≡ bit (eqb (awaited (task_at st i).mode) r))

  pub agree_fact : Reflects (entries_agree st i) Agree
  unfolding entries_agree stack_agrees queue_agrees
  agree_fact = reflects_and (each_resource_fact st _ _ (λ r. reflects_eq _ _)) (each_resource_fact st _ _ (λ r. reflects_eq _ _))

  abbrev pub Unqueued : Type 0
  Unqueued = (owned (resource_at st i).owner ≡ true → ⊥) → (resource_at st i).waiting ≡ 0

  pub unqueued_fact : Reflects (unowned_unqueued st i) Unqueued
  unfolding unowned_unqueued
  unqueued_fact = reflects_implies (reflects_not (reflects_self _)) (reflects_eq _ _)

  abbrev pub Declared : Type 0
  Declared = EachResource st (λ r. (owner_no (resource_at st r).owner ≡ i) ⊎ (awaited (task_at st i).mode ≡ r) → declares st i r ≡ true)

  pub declared_fact : Reflects (all_declared st i) Declared
  unfolding all_declared used_declared
  declared_fact = each_resource_fact st _ _ (λ r. reflects_implies (reflects_or (reflects_eq _ _) (reflects_eq _ _)) (reflects_self _))

  pub open_fact : Reflects (chain_open st i) (Open st i)
  unfolding chain_open
  open_fact = reflects_le _ _

  abbrev pub Idles : Type 0
  Idles =
      (recharging (server_at st i).phase ≡ true) ⊎
      ((idle (server_at st i).phase ≡ true → suspended (task_at st (served st i)).mode ≡ true) ×
      (suspended (task_at st (served st i)).mode ≡ true → idle (server_at st i).phase ≡ true))

  pub idles_fact : Reflects (idle_fits st i) Idles
  unfolding idle_fits
  idles_fact = reflects_or (reflects_self _) (reflects_iff (reflects_self _) (reflects_self _))

  abbrev pub Executor : Type 0
  Executor = placed (task_at st i).runs ≡ true → running_for st i (executor_number (task_at st i).runs) ≡ true

  pub executor_fact : Reflects (executor_fits st i) Executor
  unfolding executor_fits
  executor_fact = reflects_implies (reflects_self _) (reflects_self _)

  abbrev pub Serves : Type 0
  Serves = running_at st i ≡ true → placed (task_at st (served st i)).runs ≡ true

  pub serves_fact : Reflects (served_executes st i) Serves
  unfolding served_executes
  serves_fact = reflects_implies (reflects_self _) (reflects_self _)

  -- the sum bounds its parts, which rule 4.16 asks for all the same
  abbrev pub Accounts : Type 0
  Accounts = ((task_at st i).executed ≤ st.clock) × ((server_at st i).own + (server_at st i).lent + (server_at st i).spin ≤ st.clock)

  pub accounts_fact : Reflects (accounts_fit st i) Accounts
  unfolding accounts_fit
  accounts_fact =
      reflects_change
      (reflects_and
      (reflects_and
      (reflects_and
      (reflects_and (reflects_le (server_at st i).own st.clock) (reflects_le (server_at st i).lent st.clock))
      (reflects_le (server_at st i).spin st.clock))
      (reflects_le (task_at st i).executed st.clock))
      (reflects_le ((server_at st i).own + (server_at st i).lent + (server_at st i).spin) st.clock))
      (λ h. (h.0.1, h.1))
      (λ h. ((((omega arith, omega arith), omega arith), h.0), h.1))

-- the facts, one for each named test, in its order
pub record Loose (st : State) : Type 0 where
  pub processors_least : 1 ≤ st.processors
  pub processors_most : st.processors ≤ 8
  pub tasks_least : 1 ≤ st.tasks
  pub tasks_most : st.tasks ≤ 16
  pub resources_most : st.resources ≤ 16
  pub clock_most : st.clock ≤ clock_limit
  pub reservation : Each st (Reservation st)
  pub declaration : Each st (Declaration st)
  pub deadline : Each st (Deadline st)
  pub budget : Each st (Budget st)
  pub empty : Each st (Empty st)
  pub stack : Each st (Stack st)
  pub queue : EachResource st (Queue st)
  pub owner : EachResource st (Owned st)
  pub wait : Each st (Wait st)
  pub agree : Each st (Agree st)
  pub unqueued : EachResource st (Unqueued st)
  pub declared : Each st (Declared st)
  pub opens : Each st (Open st)
  pub idles : Each st (Idles st)
  pub executor : Each st (Executor st)
  pub serves : Each st (Serves st)
  pub accounts : Each st (Accounts st)

pub loose_facts : (st : State) → Reflects (loose st) (Loose st)
unfolding loose
loose_facts st =
    reflects_change
    (reflects_and (reflects_and (reflects_and (reflects_and (reflects_and (reflects_and (reflects_and (reflects_and (reflects_and (reflects_and (reflects_and (reflects_and (reflects_and (reflects_and (reflects_and (reflects_and (reflects_and (sizes_fact st)
    (each_fact st _ _ (reservation_fact st)))
    (each_fact st _ _ (declaration_fact st)))
    (each_fact st _ _ (deadline_fact st)))
    (each_fact st _ _ (budget_fact st)))
    (each_fact st _ _ (empty_fact st)))
    (each_fact st _ _ (stack_fact st)))
    (each_resource_fact st _ _ (queue_fact st)))
    (each_resource_fact st _ _ (owner_fact st)))
    (each_fact st _ _ (wait_fact st)))
    (each_fact st _ _ (agree_fact st)))
    (each_resource_fact st _ _ (unqueued_fact st)))
    (each_fact st _ _ (declared_fact st)))
    (each_fact st _ _ (open_fact st)))
    (each_fact st _ _ (idles_fact st)))
    (each_fact st _ _ (executor_fact st)))
    (each_fact st _ _ (serves_fact st)))
    (each_fact st _ _ (accounts_fact st)))
    (λ h. record {
      processors_least = h.0.0.0.0.0.0.0.0.0.0.0.0.0.0.0.0.0.0.0.0.0.0;
      processors_most = h.0.0.0.0.0.0.0.0.0.0.0.0.0.0.0.0.0.0.0.0.0.1;
      tasks_least = h.0.0.0.0.0.0.0.0.0.0.0.0.0.0.0.0.0.0.0.0.1;
      tasks_most = h.0.0.0.0.0.0.0.0.0.0.0.0.0.0.0.0.0.0.0.1;
      resources_most = h.0.0.0.0.0.0.0.0.0.0.0.0.0.0.0.0.0.0.1;
      clock_most = h.0.0.0.0.0.0.0.0.0.0.0.0.0.0.0.0.0.1;
      reservation = h.0.0.0.0.0.0.0.0.0.0.0.0.0.0.0.0.1;
      declaration = h.0.0.0.0.0.0.0.0.0.0.0.0.0.0.0.1;
      deadline = h.0.0.0.0.0.0.0.0.0.0.0.0.0.0.1;
      budget = h.0.0.0.0.0.0.0.0.0.0.0.0.0.1;
      empty = h.0.0.0.0.0.0.0.0.0.0.0.0.1;
      stack = h.0.0.0.0.0.0.0.0.0.0.0.1;
      queue = h.0.0.0.0.0.0.0.0.0.0.1;
      owner = h.0.0.0.0.0.0.0.0.0.1;
      wait = h.0.0.0.0.0.0.0.0.1;
      agree = h.0.0.0.0.0.0.0.1;
      unqueued = h.0.0.0.0.0.0.1;
      declared = h.0.0.0.0.0.1;
      opens = h.0.0.0.0.1;
      idles = h.0.0.0.1;
      executor = h.0.0.1;
      serves = h.0.1;
      accounts = h.1;
    })
    (λ h. ((((((((((((((((((((((h.processors_least, h.processors_most), h.tasks_least), h.tasks_most), h.resources_most), h.clock_most), h.reservation), h.declaration), h.deadline), h.budget), h.empty), h.stack), h.queue), h.owner), h.wait), h.agree), h.unqueued), h.declared), h.opens), h.idles), h.executor), h.serves), h.accounts))

-- rule 4.6
abbrev pub Seated : State → Type 0
Seated st = count_to places (running_at st) ≤ st.processors

pub seated_fact : (st : State) → Reflects (seated st) (Seated st)
unfolding seated
seated_fact st = reflects_le _ _

pub record Sound (st : State) : Type 0 where
  pub is_loose : Loose st
  pub is_seated : Seated st

pub sound_facts : (st : State) → Reflects (sound st) (Sound st)
unfolding sound
sound_facts st =
    reflects_change
    (reflects_and (loose_facts st) (seated_fact st))
    (λ h. record { is_loose = h.0; is_seated = h.1 })
    (λ h. (h.is_loose, h.is_seated))
