-- The laws of rule H: what `settled` leaves alone, which of its three steps decides, and what follows for every task and server, said of the state
-- after. They lean on the three laws of `chosen` (model/proofs/Chosen.antt). Assumes nothing.
use Rattle.std.specs.Prelude.{None}
use mathlib.Core.Path.{◌≡◌, refl, sym, ap, ◌∙◌}
use mathlib.Core.Bool.{true, false}
use mathlib.Core.Logic.{⊎_elim}
use Prim.Native.Nat.{ℕ, ◌<◌, ◌≤◌}
use native.Mathlib.Omega.{arith}
use lib.Dec.{ltb}
use lib.ListN.{length}
use borrow.Author.Tests.{eqb-true, lt-ltb, ltb-true, ltb-false}
use Rattle.laws.proofs.Cases.{split, holds_fails, and_left, and_right}
use Rattle.laws.proofs.Set.{set_at_lem, set_to_keeps}
use Rattle.model.specs.State.{Runs, places, nobody, no_task, task_at, here, present, awaited, placed, executor_number, owner_of, next, served, running_at, running_for, executor_of, executing}
use Rattle.model.specs.declared.Task.{Task}
use Rattle.model.specs.declared.State.{State}
use Rattle.model.specs.RuleH.{with_runs, chosen, executor_by, runs_in, settled_task, settled}
use Rattle.model.proofs.Chain.{here_below, same_served, served_here}
use Rattle.model.proofs.Chosen.{chosen_best, chosen_serves, chosen_some}

-- who serves is below sixteen
pub serving_below : (st : State) (t s : ℕ) → running_for st t s ≡ true → s < places
unfolding running_for running_at
serving_below st t s h = here_below st s (and_left (here st s) _ (and_left (running_at st s) _ h))

-- the task that is served has a number in use
pub serving_here : (st : State) (t s : ℕ) → running_for st t s ≡ true → here st t ≡ true
unfolding running_for running_at
serving_here st t s h =
    rw (← (eqb-true (served st s) t (and_right (running_at st s) _ h)))
    (served_here st s (and_left (here st s) _ (and_left (running_at st s) _ h)))

chosen_most : (st : State) (t : ℕ) → chosen st t ≤ nobody
chosen_most st t = ⊎_elim (λ n. omega (arith, n.is_none)) (λ s. omega (arith, s.inside)) (chosen_best st t)

-- the three steps, for any server before and acting
module _ (st : State) (before acting t : ℕ) where
  -- step 1
  pub by_first : running_for st t before ≡ true → executor_by st before acting t ≡ before
  unfolding executor_by
  by_first h = rw h

  -- step 2
  pub by_second : running_for st t before ≡ false → running_for st t acting ≡ true → executor_by st before acting t ≡ acting
  unfolding executor_by
  by_second f h = rw (f, h)

  -- step 3
  pub by_third : running_for st t before ≡ false → running_for st t acting ≡ false → executor_by st before acting t ≡ chosen st t
  unfolding executor_by
  by_third f g = rw (f, g)

  by_most : executor_by st before acting t ≤ nobody
  by_most =
      split
      (running_for st t before)
      (λ y. omega (arith, by_first y, serving_below st t before y))
      (λ n.
      split
      (running_for st t acting)
      (λ y. omega (arith, by_second n y, serving_below st t acting y))
      (λ m. omega (arith, by_third n m, chosen_most st t)))

  by_serves : executor_by st before acting t < places → running_for st t (executor_by st before acting t) ≡ true
  by_serves l =
      split
      (running_for st t before)
      (λ y. rw (by_first y) y)
      (λ n.
      split
      (running_for st t acting)
      (λ y. rw (by_second n y) y)
      (λ m. rw (by_third n m) (chosen_serves st t (rw (by_third n m) at l))))

  by_some : (s : ℕ) → running_for st t s ≡ true → executor_by st before acting t < places
  by_some s h =
      split
      (running_for st t before)
      (λ y. rw (by_first y) (serving_below st t before y))
      (λ n.
      split
      (running_for st t acting)
      (λ y. rw (by_second n y) (serving_below st t acting y))
      (λ m. rw (by_third n m) (chosen_some st t s (serving_below st t s h) h)))

place_runs : (s : ℕ) → s ≤ nobody → executor_number (runs_in s) ≡ s
place_runs s l = split (ltb s places) (λ y. rw y) (λ n. rw n (omega (arith, ltb-false s places n)))

runs_placed : (s : ℕ) → s < places → placed (runs_in s) ≡ true
runs_placed s l = rw (lt-ltb s places l)

placed_runs : (s : ℕ) → placed (runs_in s) ≡ true → s < places
placed_runs s h = split (ltb s places) (λ y. ltb-true s places y) (λ n. holds_fails (rw n at h) refl)

-- rule H leaves every field of a task but one
pub settled_task_lem
    : (R : Task → Task → Type 0) → ((k : Task) → R k k) → ((x : Runs) (k : Task) → R (with_runs x k) k) → (old st : State) (acting t : ℕ)
    → R (task_at (settled old acting st) t) (task_at st t)
unfolding settled settled_task
settled_task_lem R self blind old st acting t =
    set_to_keeps R no_task self places _ st.task t
    (λ j. split (here st j) (λ h. rw h (blind _ (task_at st j))) (λ n. rw n (self (task_at st j))))

pub settled_field
    : {A : Type 0} (f : Task → A) → ((x : Runs) (k : Task) → f (with_runs x k) ≡ f k) → (old st : State) (acting t : ℕ)
    → f (task_at (settled old acting st) t) ≡ f (task_at st t)
settled_field f = settled_task_lem (λ k l. f k ≡ f l) (λ k. refl)

module _ (old st : State) (acting : ℕ) where
  -- a task keeps its mode, so that no chain changes
  settled_mode : (t : ℕ) → (task_at (settled old acting st) t).mode ≡ (task_at st t).mode
  settled_mode = settled_field (λ k. k.mode) (λ x k. refl) old st acting

  pub settled_here : (i : ℕ) → here (settled old acting st) i ≡ here st i
  unfolding settled here
  settled_here i = refl

  settled_owner : (r : ℕ) → owner_of (settled old acting st) r ≡ owner_of st r
  unfolding settled owner_of present here
  settled_owner r = refl

  pub settled_next : (t : ℕ) → next (settled old acting st) t ≡ next st t
  unfolding next
  settled_next t = rw (settled_here t, settled_mode t, settled_owner (awaited (task_at st t).mode))

  pub settled_served : (s : ℕ) → served (settled old acting st) s ≡ served st s
  settled_served s = same_served (settled old acting st) st settled_next s

  pub settled_running : (s : ℕ) → running_at (settled old acting st) s ≡ running_at st s
  unfolding settled running_at here
  settled_running s = refl

  pub settled_for : (t s : ℕ) → running_for (settled old acting st) t s ≡ running_for st t s
  unfolding running_for
  settled_for t s = rw (settled_running s, settled_served s)

  -- of a task in use, in a state whose list of tasks has it
  module _ (t : ℕ) (used : here st t ≡ true) (inside : t < length st.task) where
    settled_runs : (task_at (settled old acting st) t).runs ≡ runs_in (executor_by st (executor_of old t) acting t)
    unfolding settled settled_task
    settled_runs = ap (λ k. k.runs) (set_at_lem places t _ st.task no_task (here_below st t used) inside) ∙ rw used

    -- who executes it, by the three steps
    pub settled_executor : executor_of (settled old acting st) t ≡ executor_by st (executor_of old t) acting t
    unfolding executor_of
    settled_executor = ap executor_number settled_runs ∙ place_runs _ (by_most st (executor_of old t) acting t)

    -- rule 6.1
    pub settled_keeps : running_for st t (executor_of old t) ≡ true → executor_of (settled old acting st) t ≡ executor_of old t
    settled_keeps h = settled_executor ∙ by_first st (executor_of old t) acting t h

    -- rule 6.2
    pub settled_hands
        : running_for st t (executor_of old t) ≡ false → running_for st t acting ≡ true → executor_of (settled old acting st) t ≡ acting
    settled_hands f h = settled_executor ∙ by_second st (executor_of old t) acting t f h

    -- rule 6.3
    pub settled_chooses
        : running_for st t (executor_of old t) ≡ false → running_for st t acting ≡ false → executor_of (settled old acting st) t ≡ chosen st t
    settled_chooses f g = settled_executor ∙ by_third st (executor_of old t) acting t f g

    -- who executes is Running and serves
    pub settled_serves
        : executing (settled old acting st) t ≡ true
        → running_for (settled old acting st) t (executor_of (settled old acting st) t) ≡ true
    unfolding executing
    settled_serves h =
        let l = placed_runs _ (sym (ap placed settled_runs) ∙ and_right (here (settled old acting st) t) _ h) in
        settled_for t _ ∙ rw settled_executor (by_serves st (executor_of old t) acting t l)

    -- a task that no Running server serves executes nowhere
    pub settled_none : ((s : ℕ) → running_for (settled old acting st) t s ≡ false) → (task_at (settled old acting st) t).runs ≡ None
    settled_none f =
        split
        (ltb (executor_by st (executor_of old t) acting t) places)
        (λ y.
        holds_fails (by_serves st (executor_of old t) acting t (ltb-true _ _ y)) (sym (settled_for t _) ∙ f _))
        (λ n. settled_runs ∙ rw n)

  -- a task that a Running server serves executes
  pub settled_some
      : (t s : ℕ) → t < length st.task → running_for (settled old acting st) t s ≡ true → executing (settled old acting st) t ≡ true
  unfolding executing
  settled_some t s inside h =
      let serves : running_for st t s ≡ true = sym (settled_for t s) ∙ h in
      let used : here st t ≡ true = serving_here st t s serves in
      rw (settled_here t, used, settled_runs t used inside) (runs_placed _ (by_some st (executor_of old t) acting t s serves))
