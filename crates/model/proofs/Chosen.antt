-- The three laws of rule H's third step, which everything above cites: what is chosen is Running and serves the task; there is one if any does;
-- it depends on those servers' records alone. Assumes nothing.
use mathlib.Core.Path.{◌≡◌}
use mathlib.Core.Bool.{true}
use mathlib.Core.Logic.{⊎_elim}
use Prim.Native.Nat.{ℕ, ◌<◌}
use native.Mathlib.Omega.{arith}
use Rattle.laws.proofs.Cases.{holds_fails}
use Rattle.laws.proofs.Best.{Best, best_is, best_ext}
use Rattle.model.specs.declared.State.{State}
use Rattle.model.specs.State.{places, nobody, running_for}
use Rattle.model.specs.RuleH.{budget_at, chosen}

pub chosen_best : (st : State) (t : ℕ) → Best nobody places (running_for st t) (budget_at st) (chosen st t)
unfolding chosen
chosen_best st t = best_is nobody places (running_for st t) (budget_at st) (omega arith)

pub chosen_serves : (st : State) (t : ℕ) → chosen st t < places → running_for st t (chosen st t) ≡ true
chosen_serves st t l = ⊎_elim (λ n. absurd (omega (arith, n.is_none))) (λ s. s.counts) (chosen_best st t)

pub chosen_some : (st : State) (t s : ℕ) → s < places → running_for st t s ≡ true → chosen st t < places
chosen_some st t s l h = ⊎_elim (λ n. holds_fails h (n.nobody s l)) (λ b. b.inside) (chosen_best st t)

pub chosen_alone
    : (st u : State) (t v : ℕ)
    → ((s : ℕ) → s < places → running_for st t s ≡ running_for u v s)
    → ((s : ℕ) → s < places → running_for st t s ≡ true → budget_at st s ≡ budget_at u s)
    → chosen st t ≡ chosen u v
unfolding chosen
chosen_alone st u t v same budgets =
    best_ext nobody places (running_for st t) (running_for u v) (budget_at st) (budget_at u) same budgets (omega arith)
