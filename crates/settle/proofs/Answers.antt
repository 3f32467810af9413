-- What a server is doing, case by case, as the query's code finds it. Assumes nothing.
use mathlib.Core.Path.{◌≡◌, sym, ap, ◌∙◌}
use mathlib.Core.Bool.{true, false}
use Prim.Native.Nat.{ℕ, ◌<◌}
use lib.Dec.{ltb}
use borrow.Author.Tests.{eq-eqb, ne_eqb, ltb-true}
use Rattle.laws.proofs.Cases.{split, and_left}
use Rattle.model.specs.declared.TaskNo.{TaskNo}
use Rattle.model.specs.declared.ServerNo.{ServerNo}
use Rattle.model.specs.declared.State.{State}
use Rattle.model.specs.State.{places, server_at, task_at, in_use, here, running, executor_number, executor_of, served, running_at, executes}
use Rattle.model.proofs.Chain.{served_below}
use Rattle.settle.specs.declared.Doing.{Doing}
use Rattle.settle.specs.declared.Doing.TheVariants.{Executes, Spins, NotRunning}
use Rattle.settle.specs.Doing.{doing, said_doing}

-- the query's two promises are one
pub and_said : (d e : Doing) → d ≡ e → record { value : d ≡ e; said : said_doing d ≡ said_doing e }
and_said d e p = record { value = p; said = ap said_doing p }

pub number_below : (count i : ℕ) → in_use count i ≡ true → i < places
number_below count i h = ltb-true i places (and_left (ltb i places) _ h)

module _ (st : State) (s : ℕ) where
  pub doing_past : in_use st.tasks s ≡ false → NotRunning ≡ doing st s
  unfolding doing running_at here
  doing_past h = rw h

  pub doing_off : running (server_at st s).phase ≡ false → NotRunning ≡ doing st s
  unfolding doing running_at
  doing_off h = split (here st s) (λ y. rw (y, h)) (λ n. rw n)

  module _ (used : in_use st.tasks s ≡ true) where
    pub end_below : (end : TaskNo) → end ≡ record { 0 = served st s } → end.0 < places
    end_below end e = rw e (served_below st s (number_below st.tasks s used))

    module _ (runs : running (server_at st s).phase ≡ true) where
      is_running : running_at st s ≡ true
      unfolding running_at here
      is_running = rw (used, runs)

      -- `executor` is where the task that it serves executes
      module _ (end : TaskNo) (executor : ServerNo) (e : end ≡ record { 0 = served st s }) (at : executor ≡ record { 0 = executor_number (task_at st end.0).runs }) where
        place : executor.0 ≡ executor_of st (served st s)
        unfolding executor_of
        place = ap (λ x. x.0) at ∙ ap (λ (t : TaskNo). executor_number (task_at st t.0).runs) e

        pub doing_executes : executor.0 ≡ s → Executes end ≡ doing st s
        unfolding doing executes
        doing_executes h = rw (is_running, eq-eqb _ s (sym place ∙ h)) (ap Executes e)

        pub doing_spins : (executor.0 ≡ s → ⊥) → Spins end ≡ doing st s
        unfolding doing executes
        doing_spins h = rw (is_running, ne_eqb _ s (λ q. h (place ∙ q))) (ap Spins e)
