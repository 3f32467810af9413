-- What it is for two states to agree on a group, for any labelling of tasks and resources. A labelling fits where a resource has the label of each task
-- that declares it; declarations never change. Then who waits for a resource and who owns it have its label (`Homed`), which is far weaker than
-- soundness and holds of the state between change and rule H too, and it is all that locality needs: chains stay inside a label (`served_home`), so
-- what a group reads is its own: ends, who serves, who executes, whom rule H would choose. `Good` is what `free` keeps; nothing in it speaks of
-- processors. Every number has a label, so entries past the counts and undeclared resources need nothing special. Assumes nothing.
use Rattle.theory.proofs.Kit.{◌≡◌, refl, sym, ap, ◌∙◌, Bool, true, false, ◌&&◌, inl, inr, ℕ, ◌<◌, arith, eqb, eqb-true, eqb-false}
use Rattle.laws.proofs.Cases.{split, and_left, and_right}
use Rattle.laws.proofs.SameAt.{SameAt, same_refl, same_sym, same_trans}
use Rattle.model.specs.declared.State.{State}
use Rattle.model.specs.State.{places, no_server, no_task, no_resource, task_at, resource_at, here, present, awaited, owner_no, owner_of, next, served, running_at, running_for, executor_of, executing, executes, declares}
use Rattle.model.specs.RuleH.{budget_at, chosen}
use Rattle.model.specs.Shape.{Shaped}
use Rattle.model.proofs.Chain.{linked_here, served_keeps, same_among}
use Rattle.model.proofs.Chosen.{chosen_alone}
use Rattle.model.proofs.Sound.{Loose}

-- a label for each task (and server), and one for each resource
pub record Labels : Type 0 where
  pub of_task : ℕ → ℕ
  pub of_resource : ℕ → ℕ

-- s and u agree on what the group g reads: the counts, the clock, the entries of its tasks, servers and resources
pub record Agree (l : Labels) (g : ℕ) (s u : State) : Type 0 where
  pub processors_same : s.processors ≡ u.processors
  pub tasks_same : s.tasks ≡ u.tasks
  pub resources_same : s.resources ≡ u.resources
  pub clock_same : s.clock ≡ u.clock
  pub server_same : SameAt l.of_task g places no_server s.server u.server
  pub task_same : SameAt l.of_task g places no_task s.task u.task
  pub resource_same : SameAt l.of_resource g places no_resource s.resource u.resource

-- who waits for a resource and who owns it have its label
pub record Homed (l : Labels) (st : State) : Type 0 where
  pub waits
      : (t : ℕ) → here st t ≡ true → present st (awaited (task_at st t).mode) ≡ true → l.of_resource (awaited (task_at st t).mode) ≡ l.of_task t
  pub owns
      : (r : ℕ) → present st r ≡ true → here st (owner_no (resource_at st r).owner) ≡ true →
      l.of_resource r ≡ l.of_task (owner_no (resource_at st r).owner)

module _ (l : Labels) where
  pub agree_sym : (g : ℕ) (s u : State) → Agree l g s u → Agree l g u s
  agree_sym g s u a =
      record {
        processors_same = sym a.processors_same;
        tasks_same = sym a.tasks_same;
        resources_same = sym a.resources_same;
        clock_same = sym a.clock_same;
        server_same = same_sym a.server_same;
        task_same = same_sym a.task_same;
        resource_same = same_sym a.resource_same;
      }

  pub agree_trans : (g : ℕ) (s u v : State) → Agree l g s u → Agree l g u v → Agree l g s v
  agree_trans g s u v a b =
      record {
        processors_same = a.processors_same ∙ b.processors_same;
        tasks_same = a.tasks_same ∙ b.tasks_same;
        resources_same = a.resources_same ∙ b.resources_same;
        clock_same = a.clock_same ∙ b.clock_same;
        server_same = same_trans a.server_same b.server_same;
        task_same = same_trans a.task_same b.task_same;
        resource_same = same_trans a.resource_same b.resource_same;
      }

  -- chains stay inside
  module _ (st : State) (home : Homed l st) where
    next_home : (t : ℕ) → next st t < places → l.of_task (next st t) ≡ l.of_task t
    unfolding next owner_of
    next_home t k =
        let h : here st t ≡ true = linked_here st t k in
        let r : ℕ = awaited (task_at st t).mode in
        split
        (present st r && here st (owner_no (resource_at st r).owner))
        (λ y.
        let p : present st r ≡ true = and_left (present st r) _ y in
        rw (h, y) (sym (home.owns r p (and_right (present st r) _ y)) ∙ home.waits t h p))
        (λ n. absurd (omega (arith, rw (h, n) at k)))

    pub served_home : (t : ℕ) → l.of_task (served st t) ≡ l.of_task t
    served_home t = served_keeps (λ x. l.of_task x ≡ l.of_task t) st (λ x e k. next_home x k ∙ e) t refl

    -- a server that serves t has its label, and no other serves it
    serves_home : (b : Bool) (t x : ℕ) → (b && eqb (served st x) t) ≡ true → l.of_task x ≡ l.of_task t
    serves_home b t x h = sym (served_home x) ∙ ap l.of_task (eqb-true (served st x) t (and_right b _ h))

    serves_not : (b : Bool) (t x : ℕ) → (l.of_task x ≡ l.of_task t → ⊥) → (b && eqb (served st x) t) ≡ false
    serves_not b t x n = split (b && eqb (served st x) t) (λ y. absurd (n (serves_home b t x y))) (λ e. e)

    for_home : (t x : ℕ) → running_for st t x ≡ true → l.of_task x ≡ l.of_task t
    unfolding running_for
    for_home t x h = serves_home (running_at st x) t x h

  -- what the group reads
  module _ (g : ℕ) (s u : State) (a : Agree l g s u) where
    pub here_same : (i : ℕ) → here s i ≡ here u i
    unfolding here
    here_same i = rw a.tasks_same refl

    pub present_same : (r : ℕ) → present s r ≡ present u r
    unfolding present
    present_same r = rw a.resources_same refl

    pub running_same : (x : ℕ) → l.of_task x ≡ g → running_at s x ≡ running_at u x
    unfolding running_at
    running_same x e = rw (here_same x, a.server_same.entry x e) refl

    pub executor_of_same : (t : ℕ) → l.of_task t ≡ g → executor_of s t ≡ executor_of u t
    unfolding executor_of
    executor_of_same t e = rw (a.task_same.entry t e) refl

    pub executing_same : (t : ℕ) → l.of_task t ≡ g → executing s t ≡ executing u t
    unfolding executing
    executing_same t e = rw (here_same t, a.task_same.entry t e) refl

    owner_same : (r : ℕ) → (present s r ≡ true → l.of_resource r ≡ g) → owner_of s r ≡ owner_of u r
    unfolding owner_of
    owner_same r h =
        split
        (present s r)
        (λ y. rw (← (present_same r), y, here_same, a.resource_same.entry r (h y)) refl)
        (λ n. rw (← (present_same r), n) refl)

    module _ (home : Homed l s) where
      pub next_same : (t : ℕ) → l.of_task t ≡ g → next s t ≡ next u t
      unfolding next
      next_same t e =
          split
          (here s t)
          (λ y.
          rw (← (here_same t), y, ← (a.task_same.entry t e))
          (owner_same (awaited (task_at s t).mode) (λ p. home.waits t y p ∙ e)))
          (λ n. rw (← (here_same t), n) refl)

      pub served_same : (t : ℕ) → l.of_task t ≡ g → served s t ≡ served u t
      served_same = same_among (λ x. l.of_task x ≡ g) s (λ x e k. next_home s home x k ∙ e) u next_same

      pub served_in : (t : ℕ) → l.of_task t ≡ g → l.of_task (served s t) ≡ g
      served_in t e = served_home s home t ∙ e

      pub executes_same : (x : ℕ) → l.of_task x ≡ g → executes s x ≡ executes u x
      unfolding executes
      executes_same x e = rw (running_same x e, ← (served_same x e), executor_of_same (served s x) (served_in x e)) refl

    module _ (home : Homed l s) (other : Homed l u) where
      -- a test on servers, with the test whether they serve a task of the group: on others' servers both fail
      pub serves_same
          : (p q : ℕ → Bool) (t : ℕ) → l.of_task t ≡ g → ((x : ℕ) → l.of_task x ≡ g → p x ≡ q x) →
          (x : ℕ) → (p x && eqb (served s x) t) ≡ (q x && eqb (served u x) t)
      serves_same p q t e same x =
          split
          (eqb (l.of_task x) g)
          (λ y. let k = eqb-true (l.of_task x) g y in rw (same x k, served_same home x k) refl)
          (λ n.
          let no : l.of_task x ≡ l.of_task t → ⊥ = λ k. eqb-false (l.of_task x) g n (k ∙ e) in
          serves_not s home (p x) t x no ∙ sym (serves_not u other (q x) t x no))

      pub for_same : (t : ℕ) → l.of_task t ≡ g → (x : ℕ) → running_for s t x ≡ running_for u t x
      unfolding running_for
      for_same t e = serves_same (running_at s) (running_at u) t e running_same

      pub chosen_same : (t : ℕ) → l.of_task t ≡ g → chosen s t ≡ chosen u t
      unfolding budget_at
      chosen_same t e =
          chosen_alone s u t t (λ x k. for_same t e x) (λ x k h. ap (λ v. v.budget) (a.server_same.entry x (for_home s home t x h ∙ e)))

-- the labels fit what is declared: a resource has the label of each task that declares it
abbrev pub Fits : Labels → State → Type 0
Fits l st = (t r : ℕ) → here st t ≡ true → present st r ≡ true → declares st t r ≡ true → l.of_resource r ≡ l.of_task t

-- what `free` keeps
pub record Good (l : Labels) (st : State) : Type 0 where
  pub loose : Loose st
  pub shaped : Shaped st
  pub fits : Fits l st

pub good_home : (l : Labels) (st : State) → Good l st → Homed l st
good_home l st ok =
    record {
      waits = λ t h p. ok.fits t _ h p (ok.loose.declared t h _ p (inr refl));
      owns = λ r p h. ok.fits _ r h p (ok.loose.declared _ h r p (inl refl));
    }

pub good_self : (l : Labels) (g : ℕ) (st : State) → Good l st → Agree l g st st
good_self l g st ok = record {
  processors_same = refl;
  tasks_same = refl;
  resources_same = refl;
  clock_same = refl;
  server_same = same_refl _ ok.shaped.servers;
  task_same = same_refl _ ok.shaped.tasks;
  resource_same = same_refl _ ok.shaped.resources;
}
