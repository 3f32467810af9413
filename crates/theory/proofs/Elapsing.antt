-- Elapse: Running servers spend, exhausted ones recharge, and what they executed goes on in the best Running server of its set, or nowhere.
-- Assumes nothing.
use Rattle.theory.proofs.Kit.{◌≡◌, refl, sym, ap, ◌∙◌, true, false, ℕ, ◌+◌, arith}
use native.Mathlib.Numerals.{unary_clauses}
use Rattle.laws.proofs.Cases.{holds_fails, unheld_fails, and_left}
use Rattle.laws.proofs.Set.{set_at_lem}
use Rattle.theory.proofs.Declared.{Recharging, Server, State, Event, Elapse}
use Rattle.model.specs.State.{places, no_task, server_at, task_at, here, running, running_at, running_for, executor_of, executing, executes}
use Rattle.model.specs.Events.{own_ticks, lent_ticks, spin_ticks, runs_out, spent_server, ticked_task, task_by, each_server, elapsed}
use Rattle.model.specs.Step.{state_after, stepped}
use Rattle.model.proofs.Chain.{here_below}
use Rattle.theory.specs.Rules.{Proper, ExecutorsStay, Nothing, Rest, Elapsed}
use Rattle.theory.proofs.Executing.{runs_for_lem, Way, served_executes_lem}
use Rattle.theory.proofs.Serving.{each_at}
use Rattle.theory.proofs.Accounts.{elapsed_adds}
use Rattle.theory.proofs.Steps.{properly, nobody_serves, after_server, task_is, rest_by, ends_stay, same_for, executor_chosen, executor_stays}
use Rattle.theory.proofs.Readings.{for_here, running_here, off_for}

module _ (st : State) (n : ℕ) (w : Way st (Elapse n)) where
  abbrev e : Event
  e = Elapse n

  abbrev after : State
  after = state_after st e

  spent : (s : ℕ) → here st s ≡ true → server_at (elapsed st n) s ≡ spent_server st n s
  unfolding elapsed
  spent s u = each_at st w.shaped.servers (spent_server st n) s u

  out_running : (s : ℕ) → runs_out st n s ≡ true → running_at st s ≡ true
  unfolding runs_out
  out_running s h = and_left (running_at st s) _ h

  recharges : (s : ℕ) → runs_out st n s ≡ true → (server_at after s).phase ≡ Recharging
  unfolding spent_server
  recharges s h = ap (λ (x : Server). x.phase) (after_server st e s ∙ spent s (running_here st s (out_running s h))) ∙ rw h

  stays : (s : ℕ) → here st s ≡ true → runs_out st n s ≡ false → (server_at after s).phase ≡ (server_at st s).phase
  unfolding spent_server
  stays s u m = ap (λ (x : Server). x.phase) (after_server st e s ∙ spent s u) ∙ rw m

  -- a server that does not run spends nothing
  idler : (s : ℕ) → here st s ≡ true → running_at st s ≡ false → server_at (elapsed st n) s ≡ server_at st s
  unfolding spent_server runs_out own_ticks lent_ticks spin_ticks executes
  idler s u m = spent s u ∙ rw m (simp unary_clauses refl)

  ticked : (t : ℕ) → here st t ≡ true → task_at (elapsed st n) t ≡ ticked_task st n t
  unfolding elapsed each_server task_by
  ticked t u = set_at_lem places t _ st.task no_task (here_below st t u) (omega (arith, w.shaped.tasks, here_below st t u)) ∙ rw u

  rest : Rest st after (st.clock + n) (λ s. running_at st s ≡ true) (λ t. executing st t ≡ true) Nothing
  unfolding ticked_task elapsed each_server
  rest =
      rest_by st e w (st.clock + n) (λ s. running_at st s ≡ true) (λ t. executing st t ≡ true) Nothing refl
      (λ s u m. idler s u (unheld_fails _ m))
      (λ t u m. ticked t u ∙ rw (unheld_fails (executing st t) m))
      (λ r u m. refl)

  off : (t s : ℕ) → runs_out st n s ≡ true → running_for after t s ≡ false
  off t s h = off_for after t s (ap running (recharges s h))

  still : (t s : ℕ) → here st s ≡ true → runs_out st n s ≡ false → running_for after t s ≡ running_for st t s
  still t s u m = same_for st e w t s (ends_stay st e w tt s u) (ap running (stays s u m))

  others : ExecutorsStay st after (λ t. runs_out st n (executor_of st t) ≡ true)
  others t u m =
      executor_stays st e w t u
      (λ y. let f = runs_for_lem st w.facts t y in still t _ (for_here st t _ f) (unheld_fails _ m) ∙ f)
      (λ s v h. served_executes_lem st w.facts t s u (sym (still t s v (unheld_fails _ (λ o. holds_fails h (off t s o)))) ∙ h))

  shows : Elapsed st after n
  unfolding spent_server
  shows = record {
    rest = rest;
    spends = λ s r. ap (λ (x : Server). x.budget) (after_server st e s ∙ spent s (running_here st s r)) ∙ rw r;
    keeps = λ s u.
        let q = after_server st e s ∙ spent s u in
        (ap (λ (x : Server). x.deadline) q, ap (λ (x : Server). x.quota) q, ap (λ (x : Server). x.period) q);
    recharges = recharges;
    stays = stays;
    accounts = λ i u. elapsed_adds st w.facts n i u;
    ticked = λ t u. task_is st e w t u (ticked_task st n t) (ticked t u);
    ends = ends_stay st e w tt;
    executors = others;
    goes_on = λ t u o. executor_chosen st e w t u (off t _ o) (nobody_serves after t);
  }

pub elapses : (st : State) (n : ℕ) → Proper st (Elapse n) → Elapsed st (stepped st (Elapse n)).state n
elapses st n p = properly st (Elapse n) p (λ after. Elapsed st after n) (shows st n)
