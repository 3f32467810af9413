-- Recharge: the server has its budget again, and nobody executes elsewhere for it. Assumes nothing.
use Rattle.theory.proofs.Kit.{◌≡◌, refl, sym, ap, ◌∙◌, false, ℕ}
use Rattle.laws.proofs.Cases.{split}
use Rattle.theory.proofs.Declared.{Server, State, Event, Recharge}
use Rattle.model.specs.State.{server_at, task_at, suspended, running, served}
use Rattle.model.specs.Events.{refilled, recharged_phase, recharged}
use Rattle.model.specs.Step.{state_after, stepped}
use Rattle.theory.specs.Rules.{Proper, ExecutorsStay, Nothing, Recharged}
use Rattle.theory.proofs.Steps.{properly, ends_stay}
use Rattle.model.proofs.Variants.{recharging_is}
use Rattle.theory.proofs.Readings.{off_for}
use Rattle.theory.proofs.Storing.{stored_server, stored_rest, stored_executor}
use Rattle.theory.proofs.Executing.{Way}

module _ (st : State) (s : ℕ) (w : Way st (Recharge (record { 0 = s }))) where
  abbrev e : Event
  e = Recharge (record { 0 = s })

  abbrev after : State
  after = state_after st e

  abbrev x : Server
  x = refilled (recharged_phase st s) st.clock (server_at st s)

  full : server_at after s ≡ x
  unfolding recharged
  full = stored_server st e w s x w.ground.0 refl

  resting : running (recharged_phase st s) ≡ false
  unfolding recharged_phase
  resting = split (suspended (task_at st (served st s)).mode) (λ y. rw y) (λ n. rw n)

  -- it ran neither before nor after
  others : ExecutorsStay st after Nothing
  unfolding recharged
  others u v n =
      stored_executor st e w s x w.ground.0 refl tt u v
      (off_for after u s (ap (λ (z : Server). running z.phase) full ∙ resting)
      ∙ sym (off_for st u s (ap running (recharging_is (server_at st s).phase w.ground.1))))

  shows : Recharged st after s
  unfolding recharged recharged_phase
  shows = record {
    rest = stored_rest st e w s x w.ground.0 refl;
    awake = λ a. full ∙ rw a;
    asleep = λ a. full ∙ rw a;
    ends = ends_stay st e w tt;
    executors = others;
  }

pub refills : (st : State) (s : ℕ) → Proper st (Recharge (record { 0 = s })) → Recharged st (stepped st (Recharge (record { 0 = s }))).state s
refills st s p = properly st (Recharge (record { 0 = s })) p (λ after. Recharged st after s) (shows st s)
