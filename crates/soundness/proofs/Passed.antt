-- What the code's tests of a state say, group by group, as facts: `Passed`, with a law each way. Assumes nothing.
use mathlib.Core.Path.{◌≡◌}
use mathlib.Core.Bool.{true}
use Prim.Native.Nat.{ℕ, ◌+◌, ◌<◌, ◌≤◌}
use lib.Dec.{leb, eqb}
use lib.ListN.{get_or}
use Rattle.laws.specs.Loops.{sum_to}
use Rattle.laws.proofs.Reflect.{Reflects, reflects_self, reflects_le, reflects_lt, reflects_eq, reflects_change, reflects_and, reflects_iff}
use Rattle.model.specs.declared.State.{State}
use Rattle.model.specs.State.{places, server_at, task_at, resource_at, here, present, declares, running, waiting, awaited, owned, placed, executor_number, owner_of, served}
use Rattle.model.proofs.Chain.{Open}
use Rattle.model.proofs.Sound.{Each, EachResource, each_fact, each_resource_fact, Reservation, Declaration, Deadline, Budget, Empty, Idles, Seated, quota_fact, Sizes, sizes_fact}
use Rattle.chain.specs.Arrays.{array_of, wanted, wanted_of, runs_for}
use Rattle.chain.specs.Computed.{numbers_of, at_or_nobody}
use Rattle.soundness.specs.Computed.{used_in, task_passes, task_passes_at, depth_at, tasks_pass, every_bit, resource_passes, resource_passes_at, length_at, resources_pass, server_passes, server_passes_at, servers_pass, passes}
use Rattle.soundness.proofs.Agree.{Totals}
use Rattle.soundness.proofs.Facts.{Members, members_fact, used_sum, seats_count, wait_fact, serves_fact, executes_fact, owner_fact}

-- the facts of a task, a resource and a server that pass
module _ (st : State) (i : ℕ) where
  abbrev pub Waits : Type 0
  Waits =
      waiting (task_at st i).mode ≡ true →
      (present st (awaited (task_at st i).mode) ≡ true) × (declares st i (awaited (task_at st i).mode) ≡ true)

  abbrev pub Stack : Type 0
  Stack = Members (task_at st i).held (task_at st i).depth (task_at st i).declared (array_of (owner_of st)) i

  pub record TaskFacts : Type 0 where
    pub executed : (task_at st i).executed ≤ st.clock
    pub declaration : Declaration st i
    pub waits : Waits
    pub stack : Stack

  pub task_facts : Reflects (task_passes_at st i) TaskFacts
  unfolding task_passes_at task_passes present declares
  task_facts =
      reflects_change
      (reflects_and
      (reflects_and
      (reflects_and (reflects_le _ _) (reflects_lt _ _))
      (wait_fact st.resources (task_at st i).declared (task_at st i).mode))
      (members_fact (task_at st i).held (task_at st i).depth (task_at st i).declared (array_of (owner_of st)) i))
      (λ h. record { executed = h.0.0.0; declaration = h.0.0.1; waits = h.0.1; stack = h.1 })
      (λ h. (((h.executed, h.declaration), h.waits), h.stack))

  pub record ResourceFacts : Type 0 where
    pub owner : owned (resource_at st i).owner ≡ true → owner_of st i < places
    pub unqueued : (owned (resource_at st i).owner ≡ true → ⊥) → (resource_at st i).waiting ≡ 0
    pub queue : Members (numbers_of (resource_at st i).queue) (resource_at st i).waiting every_bit (wanted_of st) i

  pub resource_facts : Reflects (resource_passes_at st i) ResourceFacts
  unfolding resource_passes_at resource_passes
  resource_facts =
      reflects_change
      (reflects_and
      (owner_fact (owner_of st i) (resource_at st i).waiting (resource_at st i).owner)
      (members_fact (numbers_of (resource_at st i).queue) (resource_at st i).waiting every_bit (wanted_of st) i))
      (λ h. record { owner = h.0.0; unqueued = h.0.1; queue = h.1 })
      (λ h. ((h.owner, h.unqueued), h.queue))

  pub record ServerFacts : Type 0 where
    pub reservation : Reservation st i
    pub deadline : Deadline st i
    pub budget : Budget st i
    pub empty : Empty st i
    pub accounts : (server_at st i).own + (server_at st i).lent + (server_at st i).spin ≤ st.clock
    pub opens : Open st i
    pub serves : running (server_at st i).phase ≡ true → placed (task_at st (served st i)).runs ≡ true
    pub idles : Idles st i
    pub executor : placed (task_at st i).runs ≡ true → at_or_nobody (array_of (runs_for st)) (executor_number (task_at st i).runs) ≡ i

  server_facts : Reflects (server_passes_at st i) ServerFacts
  unfolding server_passes_at server_passes
  server_facts =
      reflects_change
      (reflects_and
      (reflects_and
      (reflects_and
      (reflects_and
      (reflects_and
      (reflects_and
      (reflects_and
      (quota_fact (server_at st i).quota (server_at st i).period)
      (reflects_le _ _))
      (reflects_le _ _))
      (reflects_iff (reflects_eq _ _) (reflects_self _)))
      (reflects_le _ _))
      (reflects_le _ _))
      (serves_fact (server_at st i).phase (task_at st (served st i)).mode (task_at st (served st i)).runs))
      (executes_fact (array_of (runs_for st)) i (task_at st i).runs))
      (λ h. record {
        reservation = h.0.0.0.0.0.0.0;
        deadline = h.0.0.0.0.0.0.1;
        budget = h.0.0.0.0.0.1;
        empty = h.0.0.0.0.1;
        accounts = h.0.0.0.1;
        opens = h.0.0.1;
        serves = h.0.1.0;
        idles = h.0.1.1;
        executor = h.1;
      })
      (λ h.
      (((((((h.reservation, h.deadline), h.budget), h.empty), h.accounts), h.opens), (h.serves, h.idles)), h.executor))

-- stacks and queues as holders of items: how many entries, and which
abbrev pub depth : State → ℕ → ℕ
depth st t = (task_at st t).depth

abbrev pub held : State → ℕ → ℕ → ℕ
held st t j = get_or (task_at st t).held j 0

abbrev pub waiters : State → ℕ → ℕ
waiters st r = (resource_at st r).waiting

abbrev pub queued : State → ℕ → ℕ → ℕ
queued st r j = (get_or (resource_at st r).queue j (record { 0 = 0 })).0

-- the totals, and the seats
depths_fact : (st : State) → Reflects (eqb (sum_to places (depth_at st)) (used_in (array_of (owner_of st)))) (Totals (here st) (owner_of st) (depth st))
unfolding depth_at
depths_fact st = rw (used_sum (owner_of st)) (reflects_eq _ _)

lengths_fact : (st : State) → Reflects (eqb (sum_to places (length_at st)) (used_in (wanted_of st))) (Totals (present st) (wanted st) (waiters st))
unfolding length_at wanted_of
lengths_fact st = rw (used_sum (wanted st)) (reflects_eq _ _)

seats_fact : (st : State) → Reflects (leb (used_in (array_of (runs_for st))) st.processors) (Seated st)
seats_fact st = rw (seats_count st) (reflects_le _ _)

-- all that the code tests
pub record Passed (st : State) : Type 0 where
  pub sizes : Sizes st
  pub task : Each st (TaskFacts st)
  pub depths : Totals (here st) (owner_of st) (depth st)
  pub resource : EachResource st (ResourceFacts st)
  pub lengths : Totals (present st) (wanted st) (waiters st)
  pub seats : Seated st
  pub server : Each st (ServerFacts st)

pub passed_facts : (st : State) → Reflects (passes st) (Passed st)
unfolding passes tasks_pass resources_pass servers_pass
passed_facts st =
    reflects_change
    (reflects_and
    (reflects_and
    (reflects_and
    (sizes_fact st)
    (reflects_and (each_fact st _ _ (task_facts st)) (depths_fact st)))
    (reflects_and (each_resource_fact st _ _ (resource_facts st)) (lengths_fact st)))
    (reflects_and (seats_fact st) (each_fact st _ _ (server_facts st))))
    (λ h. record {
      sizes = h.0.0.0;
      task = h.0.0.1.0;
      depths = h.0.0.1.1;
      resource = h.0.1.0;
      lengths = h.0.1.1;
      seats = h.1.0;
      server = h.1.1;
    })
    (λ h. (((h.sizes, (h.task, h.depths)), (h.resource, h.lengths)), (h.seats, h.server)))
