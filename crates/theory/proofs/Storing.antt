-- An event that stores one server: dispatch, preempt and recharge. The rest stays, and the chain ends. Assumes nothing.
use Rattle.std.specs.Prelude.{if◌then◌else◌}
use Rattle.theory.proofs.Kit.{◌≡◌, refl, ap, ◌∙◌, true, ℕ, arith, eqb, eqb-true, eqb-false, eq-eqb, ne_eqb}
use Rattle.laws.proofs.Cases.{split}
use Rattle.laws.proofs.Lists.{get_d_set}
use Rattle.theory.proofs.Declared.{Server, State, Event}
use Rattle.model.specs.State.{no_server, server_at, here, running, running_for, executor_of}
use Rattle.model.specs.Events.{with_server, changed}
use Rattle.model.specs.Step.{state_after}
use Rattle.model.proofs.Chain.{here_below}
use Rattle.theory.specs.Rules.{Rest, Only, Nothing}
use Rattle.theory.proofs.Steps.{Quiet, after_server, rest_by, ends_stay, same_for, executor_same}
use Rattle.theory.proofs.Executing.{Way}

module _ (st : State) (e : Event) (w : Way st e) (s : ℕ) (x : Server) (used : here st s ≡ true) (is : changed st e ≡ with_server s x st) where
  abbrev after : State
  after = state_after st e

  stored_at : (i : ℕ) → server_at (changed st e) i ≡ (if eqb i s then x else server_at st i)
  stored_at i = ap (λ z. server_at z i) is ∙ get_d_set st.server s i x no_server (omega (arith, w.shaped.servers, here_below st s used))

  pub stored_server : server_at after s ≡ x
  stored_server = after_server st e s ∙ stored_at s ∙ rw (eq-eqb s s refl)

  stored_other : (i : ℕ) → (i ≡ s → ⊥) → server_at (changed st e) i ≡ server_at st i
  stored_other i n = stored_at i ∙ rw (ne_eqb i s n)

  pub stored_rest : Rest st after st.clock (Only s) Nothing Nothing
  stored_rest = rest_by st e w st.clock (Only s) Nothing Nothing (rw is) (λ i u n. stored_other i n) (λ t u n. rw is) (λ r u n. rw is)

  -- who runs for a task among the other servers
  pub stored_for : Quiet st e → (t i : ℕ) → here st i ≡ true → (i ≡ s → ⊥) → running_for after t i ≡ running_for st t i
  stored_for q t i u n = same_for st e w t i (ends_stay st e w q i u) (ap (λ (z : Server). running z.phase) (after_server st e i ∙ stored_other i n))

  -- a task for which the server ran as it runs now executes where it did
  pub stored_executor
      : Quiet st e → (t : ℕ) → here st t ≡ true → running_for after t s ≡ running_for st t s → executor_of after t ≡ executor_of st t
  stored_executor q t u same =
      executor_same st e w t u
      (λ i v. split (eqb i s) (λ y. rw (eqb-true i s y) same) (λ m. stored_for q t i v (eqb-false i s m)))
