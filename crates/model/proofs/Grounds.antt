-- What holds where no test refuses an event, the one for processors left out. Assumes nothing.
use mathlib.Core.Path.{◌≡◌, refl, sym, ◌∙◌}
use mathlib.Core.Bool.{Bool, true, false, ◌||◌}
use mathlib.Core.Option.{none}
use Prim.Native.Nat.{ℕ, ◌+◌, ◌≤◌}
use native.Mathlib.Omega.{arith}
use lib.Dec.{ltb, eqb}
use borrow.Author.Tests.{eqb-true, eqb-false, ltb-false, not-false}
use Rattle.laws.specs.Tests.{first_of, without}
use Rattle.laws.proofs.Cases.{and_both, none_some, none_fails, none_later, first_without}
use Rattle.laws.proofs.Reflect.{reflects_self, reflects_le, reflects_implies}
use Rattle.model.specs.declared.State.{State}
use Rattle.model.specs.declared.Event.{Event}
use Rattle.model.specs.declared.Event.TheVariants.{Wake, Suspend, Dispatch, Preempt, Elapse, Recharge, Lock, Unlock}
use Rattle.model.specs.State.{server_at, task_at, resource_at, here, present, declares, active, running, recharging, suspended, owner_no, running_at, executing}
use Rattle.model.specs.Sound.{clock_limit}
use Rattle.model.specs.Step.{affords, ends_at, top_of, tests}
use Rattle.model.proofs.Sound.{each_fact}
use Rattle.model.proofs.Stalled.{unstalled}

abbrev pub Grounds : State → Event → Type 0
Grounds st (Wake t) = (here st t.0 ≡ true) × (suspended (task_at st t.0).mode ≡ true)
Grounds st (Suspend t) = (here st t.0 ≡ true) × (executing st t.0 ≡ true)
Grounds st (Dispatch s) = (here st s.0 ≡ true) × (active (server_at st s.0).phase ≡ true)
Grounds st (Preempt s) = (here st s.0 ≡ true) × (running (server_at st s.0).phase ≡ true)
Grounds st (Elapse n) =
    (1 ≤ n) × (st.clock + n ≤ clock_limit) × ((s : ℕ) → here st s ≡ true → running_at st s ≡ true → n ≤ (server_at st s).budget)
Grounds st (Recharge s) = (here st s.0 ≡ true) × (recharging (server_at st s.0).phase ≡ true)
Grounds st (Lock t r) =
    (here st t.0 ≡ true) ×
    (present st r ≡ true) ×
    (declares st t.0 r ≡ true) ×
    (executing st t.0 ≡ true) ×
    (owner_no (resource_at st r).owner ≡ t.0 → ⊥) ×
    (ends_at st t.0 r ≡ false)
Grounds st (Unlock t r) =
    (here st t.0 ≡ true) ×
    (present st r ≡ true) ×
    (executing st t.0 ≡ true) ×
    (owner_no (resource_at st r).owner ≡ t.0) ×
    (top_of st t.0 ≡ r)

first_of_two : (a b : Bool) → (a || b) ≡ false → a ≡ false
first_of_two true b h = h
first_of_two false b h = refl

pub grounds : (st : State) (e : Event) → first_of (without 8 (tests st e)) ≡ none → Grounds st e
unfolding without affords executing
grounds st (Wake t) h = (not-false _ (none_fails _ _ _ h), not-false _ (none_fails _ _ _ (none_later _ _ _ h)))
grounds st (Suspend t) h =
    let used = not-false _ (none_fails _ _ _ h) in
    (used, and_both _ _ used (unstalled (task_at st t.0) _ (none_later _ _ _ h)).0.2)
grounds st (Dispatch s) h = (not-false _ (none_fails _ _ _ h), not-false _ (none_fails _ _ _ (none_later _ _ _ h)))
grounds st (Preempt s) h = (not-false _ (none_fails _ _ _ h), not-false _ (none_fails _ _ _ (none_later _ _ _ h)))
grounds st (Elapse n) h =
    let h11 = none_later _ _ _ h in
    let h12 = none_later _ _ _ h11 in (
      omega (arith, eqb-false n 0 (first_of_two (eqb n 0) (ltb 1000000 n) (none_fails _ _ _ h))),
      ltb-false clock_limit (st.clock + n) (none_fails _ _ _ h11),
      (each_fact st (affords st n) _ (λ s. reflects_implies (reflects_self (running_at st s)) (reflects_le n (server_at st s).budget))
          ).holds
          (not-false _ (none_fails _ _ _ h12)),
    )
grounds st (Recharge s) h = (not-false _ (none_fails _ _ _ h), not-false _ (none_fails _ _ _ (none_later _ _ _ h)))
grounds st (Lock t r) h =
    let h3 = none_later _ _ _ h in
    let h4 = none_later _ _ _ h3 in
    let acts = unstalled (task_at st t.0) _ (none_later _ _ _ h4) in
    let used = not-false _ (none_fails _ _ _ h) in (
      used,
      not-false _ (none_fails _ _ _ h3),
      not-false _ (none_fails _ _ _ h4),
      and_both _ _ used acts.0.2,
      eqb-false _ _ (none_fails _ _ _ acts.1),
      none_fails _ _ _ (none_later _ _ _ acts.1),
    )
grounds st (Unlock t r) h =
    let h3 = none_later _ _ _ h in
    let acts = unstalled (task_at st t.0) _ (none_later _ _ _ h3) in
    let used = not-false _ (none_fails _ _ _ h) in (
      used,
      not-false _ (none_fails _ _ _ h3),
      and_both _ _ used acts.0.2,
      eqb-true _ _ (not-false _ (none_fails _ _ _ acts.1)),
      eqb-true _ _ (not-false _ (none_fails _ _ _ (none_later _ _ _ acts.1))),
    )

-- what passes every test passes them without the one for processors
pub unrefused_free : (st : State) (e : Event) → first_of (tests st e) ≡ none → first_of (without 8 (tests st e)) ≡ none
unrefused_free st e h = first_without 8 (tests st e) (λ q. none_some (sym h ∙ q)) ∙ h
