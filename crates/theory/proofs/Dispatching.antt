-- Dispatch: the server spins where the task that it serves executes already, and executes it where not. Assumes nothing.
use Rattle.theory.proofs.Kit.{◌≡◌, refl, sym, ap, ◌∙◌, true, false, ℕ, eqb, eqb-true, eqb-false}
use Rattle.laws.proofs.Cases.{split, holds_fails}
use Rattle.theory.proofs.Declared.{Running, Server, State, Event, Dispatch}
use Rattle.model.specs.State.{server_at, here, running, served, running_at, running_for, executor_of, executing, executes}
use Rattle.model.specs.Events.{with_phase, phased}
use Rattle.model.specs.Step.{state_after, stepped}
use Rattle.model.proofs.Chain.{served_here}
use Rattle.theory.specs.Runs.{spins}
use Rattle.theory.specs.Rules.{Proper, ExecutorsStay, Only, Dispatched}
use Rattle.model.proofs.Variants.{active_is}
use Rattle.theory.proofs.Executing.{runs_for_lem, Way, served_executes_lem}
use Rattle.theory.proofs.Steps.{properly, after_here, ends_stay, by_rule_h}
use Rattle.theory.proofs.Readings.{for_here, running_for_lem, runs_at, spins_by, executes_by, off_for, other_for}
use Rattle.theory.proofs.Storing.{stored_server, stored_rest, stored_for, stored_executor}

module _ (st : State) (s : ℕ) (w : Way st (Dispatch (record { 0 = s }))) where
  abbrev e : Event
  e = Dispatch (record { 0 = s })

  abbrev after : State
  after = state_after st e

  abbrev x : Server
  x = with_phase Running (server_at st s)

  abbrev t : ℕ
  t = served st s

  runs : server_at after s ≡ x
  unfolding phased
  runs = stored_server st e w s x w.ground.0 refl

  stored : (u i : ℕ) → here st i ≡ true → (i ≡ s → ⊥) → running_for after u i ≡ running_for st u i
  unfolding phased
  stored = stored_for st e w s x w.ground.0 refl tt

  runs_now : running_at after s ≡ true
  runs_now = runs_at after s (after_here st e s ∙ w.ground.0) (ap (λ (z : Server). z.phase) runs)

  end : served after s ≡ t
  end = ends_stay st e w tt s w.ground.0

  target_here : here st t ≡ true
  target_here = served_here st s w.ground.0

  was_off : (u : ℕ) → running_for st u s ≡ false
  was_off u = off_for st u s (ap running (active_is (server_at st s).phase w.ground.1))

  -- tasks that it does not serve see no difference
  others : ExecutorsStay st after (Only t)
  unfolding phased
  others u v n =
      stored_executor st e w s x w.ground.0 refl tt u v
      (other_for after u s (λ q. n (sym q ∙ end)) ∙ sym (was_off u))

  module _ (y : executing st t ≡ true) where
    apart : executor_of st t ≡ s → ⊥
    apart q = holds_fails (ap (running_for st t) (sym q) ∙ runs_for_lem st w.facts t y) (was_off t)

    kept : executor_of after t ≡ executor_of st t
    kept = let f = runs_for_lem st w.facts t y in (by_rule_h st e w t target_here).keeps (stored t _ (for_here st t _ f) apart ∙ f)

    spins_now : spins after s ≡ true
    spins_now = spins_by after s runs_now (λ q. apart (sym kept ∙ ap (executor_of after) (sym end) ∙ q))

  module _ (n : executing st t ≡ false) where
    taken : executor_of after t ≡ s
    taken =
        let f = (by_rule_h st e w t target_here).serves ((by_rule_h st e w t target_here).some s (running_for_lem after t s runs_now end)) in
        split
        (eqb (executor_of after t) s)
        (λ y. eqb-true _ s y)
        (λ m.
        let here-too : here st (executor_of after t) ≡ true = sym (after_here st e _) ∙ for_here after t _ f in
        holds_fails (served_executes_lem st w.facts t _ target_here (sym (stored t _ here-too (eqb-false _ s m)) ∙ f)) n)

    executes_now : executes after s ≡ true
    executes_now = executes_by after s runs_now (ap (executor_of after) end ∙ taken)

  shows : Dispatched st after s
  unfolding phased
  shows = record {
    rest = stored_rest st e w s x w.ground.0 refl;
    runs = runs;
    ends = ends_stay st e w tt;
    executors = others;
    spins_where_executing = λ y. (spins_now y, kept y);
    executes_where_not = λ n. (executes_now n, taken n);
  }

pub dispatched : (st : State) (s : ℕ) → Proper st (Dispatch (record { 0 = s })) → Dispatched st (stepped st (Dispatch (record { 0 = s }))).state s
dispatched st s p = properly st (Dispatch (record { 0 = s })) p (λ after. Dispatched st after s) (shows st s)
