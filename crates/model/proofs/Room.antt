-- Stacks and queues as one thing, from soundness: a resource stands once in its owner's stack and a task once in the queue of what it waits for
-- (laws/proofs/Standing.antt). So a stack without r, or a queue without t, has a place left; what is held or queued can be given up; and who executes
-- waits for nobody. Assumes nothing.
use mathlib.Core.Path.{◌≡◌}
use mathlib.Core.Bool.{true}
use mathlib.Core.Logic.{inl, inr}
use Prim.Native.Nat.{ℕ, ◌<◌, ◌≤◌}
use native.Mathlib.Omega.{arith}
use lib.ListN.{get_or}
use borrow.Author.Tests.{eqb-true}
use Rattle.laws.proofs.Cases.{and_left, and_right}
use Rattle.laws.proofs.Standing.{Standing, stands_points, points_some, standing_room}
use Rattle.model.specs.declared.State.{State}
use Rattle.model.specs.State.{places, task_at, resource_at, here, present, declares, waiting, awaited, owned, owner_no, executor_number, owner_of, next, served, running_at, running_for, executing}
use Rattle.model.specs.Sound.{held_at, queued_at}
use Rattle.model.specs.Events.{first_waiter}
use Rattle.model.proofs.Chain.{here_below, present_below}
use Rattle.model.proofs.Sound.{Loose}

-- resources in the stacks of their owners, tasks in the queues of what they wait for
abbrev pub Stacks : State → Type 0
Stacks st =
    Standing 15 (present st) (here st) (λ t. (task_at st t).depth) (λ t j. get_or (task_at st t).held j 0)
    (λ r. owned (resource_at st r).owner) (λ r. owner_no (resource_at st r).owner) (declares st)

abbrev pub Queues : State → Type 0
Queues st =
    Standing 15 (here st) (present st) (λ r. (resource_at st r).waiting) (λ r j. (get_or (resource_at st r).queue j (record { 0 = 0 })).0)
    (λ t. waiting (task_at st t).mode) (λ t. awaited (task_at st t).mode) (λ r t. declares st t r)

-- nobody waits for a resource that has no queue
pub unawaited
    : (st : State) → Queues st → (r : ℕ) → present st r ≡ true → (resource_at st r).waiting ≡ 0
    → (x : ℕ) → here st x ≡ true → awaited (task_at st x).mode ≡ r → ⊥
unawaited st queues r p none x u e = omega (arith, points_some queues (present_below st) r x p u e)

module _ (st : State) (s : Loose st) where
  pub loose_stacks : Stacks st
  unfolding held_at
  loose_stacks = record { filled = s.stack; inside = s.owner; agree = λ t r h p. (s.agree t h).0 r p; allowed = λ t r h p e. s.declared t h r p (inl e) }

  pub loose_queues : Queues st
  unfolding queued_at
  loose_queues = record { filled = s.queue; inside = s.wait; agree = λ r t p h. (s.agree t h).1 r p; allowed = λ r t p h e. s.declared t h r p (inr e) }

  -- a stack that does not have r
  pub stack_room : (t r : ℕ) → here st t ≡ true → present st r ≡ true → (owner_no (resource_at st r).owner ≡ t → ⊥) → (task_at st t).depth < places
  stack_room = standing_room loose_stacks (here_below st) (present_below st)

  -- a queue that does not have t
  pub queue_room : (t r : ℕ) → here st t ≡ true → present st r ≡ true → (awaited (task_at st t).mode ≡ r → ⊥) → (resource_at st r).waiting < places
  queue_room t r h p = standing_room loose_queues (present_below st) (here_below st) r t p h

  -- the owner's stack is not empty
  pub stack_held : (t r : ℕ) → here st t ≡ true → present st r ≡ true → owner_no (resource_at st r).owner ≡ t → 0 < (task_at st t).depth
  stack_held = points_some loose_stacks (here_below st)

  -- the first of a queue is a task in use, and waits for its resource
  module _ (r : ℕ) (p : present st r ≡ true) (some : 0 < (resource_at st r).waiting) where
    pub first_here : here st (first_waiter (resource_at st r)) ≡ true
    first_here = (s.queue r p).1 0 (omega arith) some

    pub first_waits : awaited (task_at st (first_waiter (resource_at st r))).mode ≡ r
    first_waits = stands_points loose_queues (present_below st) r 0 p some

  -- who executes waits for nobody
  module _ (t : ℕ) (runs : executing st t ≡ true) where
    pub executing_ended : places ≤ next st t
    unfolding executing running_for running_at
    executing_ended =
        let h = and_left (here st t) _ runs in
        let serves = s.executor t h (and_right (here st t) _ runs) in
        let server = executor_number (task_at st t).runs in
        let running = and_left (running_at st server) _ serves in
        let o = s.opens server (and_left (here st server) _ running) in
        rw (eqb-true (served st server) t (and_right (running_at st server) _ serves)) at o

    -- so not for a resource that is owned
    pub executing_waits : (r : ℕ) → present st r ≡ true → owned (resource_at st r).owner ≡ true → awaited (task_at st t).mode ≡ r → ⊥
    unfolding next owner_of executing
    executing_waits r p o e =
        let h = s.owner r p o in
        let l = here_below st _ h in
        let ended = executing_ended in
        omega (arith, rw (and_left (here st t) _ runs, e, p, h) at ended)
