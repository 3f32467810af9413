-- Preempt: the server is Active, and the task that it executed goes on in the best Running server of its set, or nowhere. Assumes nothing.
use Rattle.theory.proofs.Kit.{◌≡◌, refl, sym, ap, ◌∙◌, true, false, ℕ}
use Rattle.laws.proofs.Cases.{holds_fails}
use Rattle.theory.proofs.Declared.{Active, Server, State, Event, Preempt}
use Rattle.model.specs.State.{server_at, here, running, running_for, executor_of}
use Rattle.model.specs.Events.{with_phase, phased}
use Rattle.model.specs.Step.{state_after, stepped}
use Rattle.theory.specs.Rules.{Proper, ExecutorsStay, Preempted}
use Rattle.theory.proofs.Executing.{runs_for_lem, Way, served_executes_lem}
use Rattle.theory.proofs.Steps.{properly, nobody_serves, ends_stay, executor_chosen, executor_stays}
use Rattle.theory.proofs.Readings.{for_here, off_for}
use Rattle.theory.proofs.Storing.{stored_server, stored_rest, stored_for}

module _ (st : State) (s : ℕ) (w : Way st (Preempt (record { 0 = s }))) where
  abbrev e : Event
  e = Preempt (record { 0 = s })

  abbrev after : State
  after = state_after st e

  abbrev x : Server
  x = with_phase Active (server_at st s)

  stops : server_at after s ≡ x
  unfolding phased
  stops = stored_server st e w s x w.ground.0 refl

  stored : (t i : ℕ) → here st i ≡ true → (i ≡ s → ⊥) → running_for after t i ≡ running_for st t i
  unfolding phased
  stored = stored_for st e w s x w.ground.0 refl tt

  off : (t : ℕ) → running_for after t s ≡ false
  off t = off_for after t s (ap (λ (z : Server). running z.phase) stops)

  others : ExecutorsStay st after (λ t. executor_of st t ≡ s)
  others t u n =
      executor_stays st e w t u
      (λ y. let f = runs_for_lem st w.facts t y in stored t _ (for_here st t _ f) n ∙ f)
      (λ i v h. served_executes_lem st w.facts t i u (sym (stored t i v (λ q. holds_fails h (ap (running_for after t) q ∙ off t))) ∙ h))

  shows : Preempted st after s
  unfolding phased
  shows = record {
    rest = stored_rest st e w s x w.ground.0 refl;
    stops = stops;
    ends = ends_stay st e w tt;
    executors = others;
    goes_on = λ t u q. executor_chosen st e w t u (ap (running_for after t) q ∙ off t) (nobody_serves after t);
  }

pub preempted : (st : State) (s : ℕ) → Proper st (Preempt (record { 0 = s })) → Preempted st (stepped st (Preempt (record { 0 = s }))).state s
preempted st s p = properly st (Preempt (record { 0 = s })) p (λ after. Preempted st after s) (shows st s)
