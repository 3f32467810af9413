-- What n ticks make of an entry, and why no sum of ticks overflows: accounts are at most the clock, and the clock has a limit. Assumes nothing.
use Rattle.std.specs.Prelude.{if◌then◌else◌}
use mathlib.Core.Path.{◌≡◌, refl, ◌∙◌, ap}
use mathlib.Core.Bool.{Bool, true, false, ◌&&◌}
use Prim.Native.Nat.{ℕ, ◌+◌, ◌≤◌}
use native.Mathlib.Omega.{arith}
use lib.Dec.{eqb}
use Rattle.laws.proofs.Cases.{and_both}
use Rattle.laws.proofs.Reflect.{reflects_self, reflects_le, reflects_implies}
use Rattle.model.specs.declared.Server.{Server}
use Rattle.model.specs.declared.Task.{Task}
use Rattle.model.specs.declared.State.{State}
use Rattle.model.specs.State.{server_at, task_at, here, served, running, running_at, executing, executes}
use Rattle.model.specs.Sound.{each, sound}
use Rattle.model.specs.Events.{runs_out, own_ticks, lent_ticks, spin_ticks, spent_server, ticked_task}
use Rattle.model.specs.Step.{affords}
use Rattle.model.proofs.Sound.{each_fact, sound_facts}
use Rattle.events.specs.Computed.{spent_by, ticked_by}

-- the ticks of an account
ticks_are : (x n m : ℕ) (b p : Bool) → b ≡ p → m ≡ (if b then n else 0) → x + m ≡ x + (if p then n else 0)
ticks_are x n m b p e q = ap (λ k. x + k) (q ∙ ap (λ a. if a then n else 0) e)

-- a server in use
pub out_here : (st : State) (n s : ℕ) (b : Bool) → here st s ≡ true → b ≡ (running (server_at st s).phase && eqb (server_at st s).budget n) → b ≡ runs_out st n s
unfolding runs_out running_at
out_here st n s b h e = rw h e

pub out_past : (st : State) (n s : ℕ) → here st s ≡ false → false ≡ runs_out st n s
unfolding runs_out running_at
out_past st n s e = rw e

pub spent_here
    : (st : State) (n s end : ℕ) (b : Bool) (x : Server)
    → here st s ≡ true
    → end ≡ served st s
    → b ≡ executes st s
    → x ≡ spent_by n b (eqb end s) (server_at st s)
    → x ≡ spent_server st n s
unfolding spent_server own_ticks lent_ticks spin_ticks runs_out running_at
spent_here st n s end b x h e q p = rw (h, ← e, ← q) p

-- a task in use
pub ticked_here : (st : State) (n t : ℕ) (x : Task) → here st t ≡ true → x ≡ ticked_by n (task_at st t) → x ≡ ticked_task st n t
unfolding ticked_task executing
ticked_here st n t x h e = rw h e

and_true : (a : Bool) → a ≡ (a && true)
and_true true = refl
and_true false = refl

-- a Running server lasts n ticks
pub lasts : (st : State) (n : ℕ) → each st (affords st n) ≡ true → (i : ℕ) → here st i ≡ true → running (server_at st i).phase ≡ true → n ≤ (server_at st i).budget
unfolding affords running_at
lasts st n a i h r =
    (each_fact st (affords st n)
    (λ j. running_at st j ≡ true → n ≤ (server_at st j).budget)
    (λ j. reflects_implies (reflects_self (running_at st j)) (reflects_le n (server_at st j).budget))).holds a i h (and_both _ _ h r)

-- accounts fit
module _ (st : State) (n : ℕ) (s : sound st ≡ true) (l : st.clock + n ≤ 4000000000) (i : ℕ) (h : here st i ≡ true) where
  pub accounts_fit_lem : (server_at st i).own + (server_at st i).lent + (server_at st i).spin + n ≤ 4000000000
  accounts_fit_lem = omega (arith, (((sound_facts st).holds s).is_loose.accounts i h).1)

  pub executed_fits_lem : (task_at st i).executed + n ≤ 4000000000
  executed_fits_lem = omega (arith, (((sound_facts st).holds s).is_loose.accounts i h).0)
