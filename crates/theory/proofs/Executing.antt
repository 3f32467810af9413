-- Who executes. Of a loose state: a task that executes is ready and waits for nobody (`runs_ready`, `runs_ended`), and one that a Running server
-- serves executes. After every accepted event (`Way`): rule H's three steps, and no choice left (`rule_h`), from the laws of rule H on the state after
-- the change, which is shaped. Assumes nothing.
use Rattle.theory.proofs.Kit.{◌≡◌, refl, sym, ap, ◌∙◌, true, false, true≢false, ⊎_elim, ◌⊎◌, inl, inr, ℕ, ◌≤◌, ◌<◌, arith, ltb, length, ltb-true, ltb-false}
use Rattle.laws.proofs.Cases.{split, holds_fails, unheld_fails, and_left, and_right, and_both}
use Rattle.theory.proofs.Declared.{Running, Ready, State, Event}
use Rattle.model.specs.State.{places, server_at, task_at, resource_at, here, present, idle, recharging, suspended, waiting, awaited, owned, next, served, running_at, running_for, executor_of, executing, placed}
use Rattle.model.specs.Shape.{Shaped}
use Rattle.model.specs.RuleH.{budget_at, chosen, settled}
use Rattle.model.specs.Events.{changed, acting}
use Rattle.model.specs.Step.{state_after, stepped}
use Rattle.model.proofs.Sound.{Loose}
use Rattle.model.proofs.Room.{executing_waits, executing_ended, unawaited, loose_queues}
use Rattle.model.proofs.Chain.{here_below}
use Rattle.model.proofs.Chosen.{chosen_best}
use Rattle.model.proofs.RuleH.{serving_below, settled_for, settled_keeps, settled_hands, settled_chooses, settled_serves, settled_some}
use Rattle.model.proofs.Grounds.{Grounds}
use Rattle.model.proofs.Variants.{running_is, ready_is}
use Rattle.model.specs.Sound.{sound}
use Rattle.theory.proofs.Frames.{heads_here, heads_kept, changed_shaped}
use Rattle.theory.proofs.Readings.{for_running, for_served, running_here}
use Rattle.theory.specs.Rules.{RuleH}
use Rattle.theory.specs.Runs.{Goes}
use Rattle.theory.proofs.Refusals.{goes_after}

-- A task that executes: its server is Running and serves it, it waits for nobody, and it is ready
module _ (st : State) (facts : Loose st) (t : ℕ) (runs : executing st t ≡ true) where
  runs_here : here st t ≡ true
  unfolding executing
  runs_here = and_left (here st t) _ runs

  pub runs_for_lem : running_for st t (executor_of st t) ≡ true
  unfolding executing executor_of
  runs_for_lem = facts.executor t runs_here (and_right (here st t) _ runs)

  pub runs_served : served st (executor_of st t) ≡ t
  runs_served = for_served st t (executor_of st t) runs_for_lem

  pub runs_ended : places ≤ next st t
  runs_ended = executing_ended st facts t runs

  server_running : (server_at st (executor_of st t)).phase ≡ Running
  unfolding running_at
  server_running = running_is _ (and_right (here st (executor_of st t)) _ (for_running st t (executor_of st t) runs_for_lem))

  awake : suspended (task_at st t).mode ≡ false
  awake =
      unheld_fails _
      (λ s.
      ⊎_elim
      (λ r. true≢false (sym r ∙ ap recharging server_running))
      (λ i. true≢false (sym (i.1 (ap (λ x. suspended (task_at st x).mode) runs_served ∙ s)) ∙ ap idle server_running))
      (facts.idles (executor_of st t) (running_here st (executor_of st t) (for_running st t (executor_of st t) runs_for_lem))))

  unwaiting : waiting (task_at st t).mode ≡ false
  unwaiting =
      unheld_fails _
      (λ w.
      let r : ℕ = awaited (task_at st t).mode in
      let p : present st r ≡ true = facts.wait t runs_here w in
      split
      (owned (resource_at st r).owner)
      (λ o. executing_waits st facts t runs r p o refl)
      (λ n. unawaited st (loose_queues st facts) r p (facts.unqueued r p (λ o. true≢false (sym o ∙ n))) t runs_here refl))

  pub runs_ready : (task_at st t).mode ≡ Ready
  runs_ready = ready_is _ awake unwaiting

-- an event that no test refuses, in a loose state
pub record Way (st : State) (e : Event) : Type 0 where
  pub shaped : Shaped st
  pub facts : Loose st
  pub ground : Grounds st e

module _ (st : State) (e : Event) (shaped : Shaped st) (t : ℕ) (used : here st t ≡ true) where
  abbrev now : State
  now = changed st e

  pub now_here : here now t ≡ true
  now_here = heads_here now st (heads_kept st e).1 (heads_kept st e).2 t ∙ used

  pub inside : t < length now.task
  inside = omega (arith, (changed_shaped st shaped e).tasks, here_below st t used)

  abbrev settles : State
  settles = settled st (acting st e) now

  still : (s : ℕ) → running_for settles t s ≡ running_for now t s
  still = settled_for st now (acting st e) t

  -- the third step: the most budget, lowest number in a tie
  best
      : running_for settles t (executor_of st t) ≡ false
      → running_for settles t (acting st e) ≡ false
      → (u : ℕ)
      → running_for settles t u ≡ true
      → ((server_at settles u).budget < (server_at settles (executor_of settles t)).budget) ⊎
      (((server_at settles u).budget ≡ (server_at settles (executor_of settles t)).budget) × (executor_of settles t ≤ u))
  unfolding settled budget_at
  best f h u r =
      let c : executor_of settles t ≡ chosen now t = settled_chooses st now (acting st e) t now_here inside (sym (still _) ∙ f) (sym (still _) ∙ h) in
      let l : u < places = serving_below settles t u r in
      let k : running_for now t u ≡ true = sym (still u) ∙ r in
      rw c
      (⊎_elim
      (λ n. holds_fails k (n.nobody u l))
      (λ b.
      let most = b.most u l k in
      split
      (ltb (server_at now u).budget (server_at now (chosen now t)).budget)
      (λ y. inl (ltb-true _ _ y))
      (λ n.
      let least = ltb-false (server_at now u).budget (server_at now (chosen now t)).budget n in
      let same : (server_at now u).budget ≡ (server_at now (chosen now t)).budget = omega arith in
      inr (same, split (ltb u (chosen now t)) (λ z. absurd (omega (arith, b.first u (ltb-true _ _ z) k))) (λ z. ltb-false _ _ z))))
      (chosen_best now t))

  pub rule_h : RuleH st (state_after st e) (acting st e) t
  unfolding state_after
  rule_h = record {
    keeps = λ h. settled_keeps st now (acting st e) t now_here inside (sym (still _) ∙ h);
    takes = λ f h. settled_hands st now (acting st e) t now_here inside (sym (still _) ∙ f) (sym (still _) ∙ h);
    serves = settled_serves st now (acting st e) t now_here inside;
    some = λ s h. settled_some st now (acting st e) t s inside h;
    best = best;
  }

pub rule_h_always
    : (st : State) (e : Event) → Shaped st → sound st ≡ true → Goes st e → (t : ℕ) →
    here st t ≡ true → RuleH st (stepped st e).state (acting st e) t
rule_h_always st e shaped s goes t used = rw (goes_after st e s goes) (rule_h st e shaped t used)

-- where a Running server serves a task, it executes
pub served_executes_lem : (st : State) → Loose st → (t s : ℕ) → here st t ≡ true → running_for st t s ≡ true → executing st t ≡ true
unfolding executing
served_executes_lem st facts t s u h =
    let r = for_running st t s h in
    and_both (here st t) _ u (ap (λ x. placed (task_at st x).runs) (sym (for_served st t s h)) ∙ facts.serves s (running_here st s r) r)
