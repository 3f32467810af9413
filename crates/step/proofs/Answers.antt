-- The answers from what the code reads: what the change has told, a task after rule H, a chain end. Assumes nothing.
use Rattle.std.specs.Prelude.{if◌then◌else◌}
use mathlib.Core.Path.{◌≡◌, refl, sym, ◌∙◌, ap}
use mathlib.Core.Bool.{Bool, true, false, ◌&&◌}
use mathlib.Core.List.{List}
use Prim.Native.Nat.{ℕ, ◌<◌}
use lib.Dec.{ltb, eqb}
use lib.ListN.{length, get_or-eq_default}
use lib.Seq.{get_or-set_same}
use borrow.Author.Tests.{ltb-true, ltb-false}
use Rattle.laws.specs.Tests.{bit}
use Rattle.laws.proofs.Cases.{split, holds_fails, and_both}
use Rattle.model.specs.declared.TaskNo.{TaskNo}
use Rattle.model.specs.declared.ServerNo.{ServerNo}
use Rattle.model.specs.declared.Phase.TheVariants.{Running}
use Rattle.model.specs.declared.State.{State}
use Rattle.model.specs.declared.Event.{Event}
use Rattle.model.specs.declared.Event.TheVariants.{Wake, Suspend, Dispatch, Preempt, Elapse, Recharge, Lock, Unlock}
use Rattle.model.specs.declared.Answer.TheVariants.{Ok, Executes, Spins, Granted, Waits}
use Rattle.model.specs.State.{places, no_server, server_at, task_at, resource_at, here, active, running, owned, placed, executor_number, served, running_at, executor_of, executes}
use Rattle.model.specs.RuleH.{settled}
use Rattle.model.specs.Events.{with_phase, phased, recharged, changed, acting}
use Rattle.model.specs.Step.{answered, state_after}
use Rattle.model.proofs.Chain.{here_below, same_served}
use Rattle.model.proofs.RuleH.{settled_served}
use Rattle.chain.specs.Arrays.{ends_of}
use Rattle.events.specs.Changes.{Clear, told}
use Rattle.chain.proofs.Arrays.{end_served, end_below}
use Rattle.events.proofs.Clear.{clear_grounds}
use Rattle.events.proofs.Changes.{servers_next}
use Rattle.step.specs.Computed.{end_at, answer_by, Within}

-- the places that an answer looks at
pub within : (st u : State) (e : Event) (ends : List TaskNo) → Clear st e → ends ≡ ends_of u → Within ends e
within st u (Wake t) ends c q = tt
within st u (Suspend t) ends c q = tt
within st u (Dispatch s) ends c q =
    let below = here_below st _ (clear_grounds st (Dispatch s) c).0 in (below, end_below u ends s.0 q below)
within st u (Preempt s) ends c q =
    let below = here_below st _ (clear_grounds st (Preempt s) c).0 in (below, end_below u ends s.0 q below)
within st u (Elapse n) ends c q = tt
within st u (Recharge s) ends c q = tt
within st u (Lock t r) ends c q = tt
within st u (Unlock t r) ends c q = tt

-- a dispatched server runs: one that was Active has an entry
runs_now : (st : State) (s : ServerNo) → Clear st (Dispatch s) → running_at (state_after st (Dispatch s)) s.0 ≡ true
unfolding state_after settled phased running_at here
runs_now st s c =
    let grounds = clear_grounds st (Dispatch s) c in
    split
    (ltb s.0 (length st.server))
    (λ y. and_both _ _ grounds.0 (ap (λ x. running x.phase) (get_or-set_same st.server s.0 (with_phase Running (server_at st s.0)) no_server (ltb-true _ _ y))))
    (λ n. holds_fails grounds.1 (ap (λ x. active x.phase) (get_or-eq_default st.server no_server (ltb-false _ _ n))))

-- the task served, by the array
module _ (u : State) (s : ℕ) (l : s < places) where
  end_is : end_at (ends_of u) s ≡ record { 0 = served u s }
  end_is = λ i. record { 0 = end_served u (ends_of u) s refl l i }

runs_before : (st : State) (s : ServerNo) → here st s.0 ≡ true → running (server_at st s.0).phase ≡ true → running_at st s.0 ≡ true
unfolding running_at
runs_before st s h r = and_both _ _ h r

preempt_served : (st : State) (s : ServerNo) → served (state_after st (Preempt s)) s.0 ≡ served st s.0
unfolding state_after phased
preempt_served st s = settled_served st (changed st (Preempt s)) (acting st (Preempt s)) s.0 ∙ same_served _ st (servers_next _ st) s.0

placed_bit : (x p : Bool) → (if p then Ok (bit x) else Ok 0) ≡ Ok (bit (x && p))
placed_bit true true = refl
placed_bit true false = refl
placed_bit false true = refl
placed_bit false false = refl

pub answer_is : (st : State) (e : Event) → Clear st e → answer_by (told st e) (state_after st e).task (ends_of (state_after st e)) e ≡ answered st (state_after st e) e
unfolding state_after settled executes executor_of recharged
answer_is st (Wake t) c = refl
answer_is st (Suspend t) c = refl
answer_is st (Dispatch s) c =
    let after = state_after st (Dispatch s) in
    let end = end_is after s.0 (here_below st _ (clear_grounds st (Dispatch s) c).0) in
    ap (λ (t : TaskNo). if eqb (executor_number (task_at after t.0).runs) s.0 then Executes t else Spins t) end ∙ rw (runs_now st s c)
answer_is st (Preempt s) c =
    let after = state_after st (Preempt s) in
    let grounds = clear_grounds st (Preempt s) c in
    let end = ap (λ (t : TaskNo). t.0) (end_is after s.0 (here_below st _ grounds.0)) ∙ preempt_served st s in
    ap (λ t. if placed (task_at after t).runs then told st (Preempt s) else Ok 0) end
    ∙ placed_bit (eqb (executor_of st (served st s.0)) s.0) (placed (task_at after (served st s.0)).runs)
    ∙ rw (runs_before st s grounds.0 grounds.1)
answer_is st (Elapse n) c = refl
answer_is st (Recharge s) c = refl
answer_is st (Lock t r) c =
    ap (λ k. if owned (resource_at st r).owner then Waits (record { 0 = k }) else Granted r) (sym (settled_served st (changed st (Lock t r)) (acting st (Lock t r)) t.0))
answer_is st (Unlock t r) c = refl
