-- What an event's own change makes: the changed state of model/specs/Events.antt, its chain ends, the answer so far, and the server that acts.
-- Assumes nothing.
use Rattle.std.specs.Prelude.{◌≡◌, true, ℕ, eqb}
use Rattle.std.proofs.Math.Option.{none}
use Rattle.laws.specs.Tests.{bit, first_of}
use Rattle.model.specs.declared.Phase.{Phase}
use Rattle.model.specs.declared.State.{State}
use Rattle.model.specs.declared.Event.{Event}
use Rattle.model.specs.declared.Event.TheVariants.{Wake, Suspend, Dispatch, Preempt, Elapse, Recharge, Lock, Unlock}
use Rattle.model.specs.declared.Answer.{Answer}
use Rattle.model.specs.declared.Answer.TheVariants.{Ok}
use Rattle.model.specs.State.{nobody, served, executor_of}
use Rattle.model.specs.Sound.{sound}
use Rattle.model.specs.Events.{phased, changed, acting}
use Rattle.model.specs.Step.{tests, answered}
use Rattle.chain.specs.Arrays.{ends_of}
use Rattle.events.specs.declared.Change.{Change}

-- the state is sound and no test refuses
pub record Clear (st : State) (e : Event) : Type 0 where
  pub is_sound : sound st ≡ true
  pub unrefused : first_of (tests st e) ≡ none

-- 1 where the task that s serves executes in s
abbrev pub hosts : State → ℕ → Answer
hosts st s = Ok (bit (eqb (executor_of st (served st s)) s))

-- the answer from the changed state; after a dispatch or a preempt, which rule H has a part in, whether the task executed in the server before
abbrev pub told : State → Event → Answer
told st (Wake t) = answered st st (Wake t)
told st (Suspend t) = answered st st (Suspend t)
told st (Dispatch s) = hosts st s.0
told st (Preempt s) = hosts st s.0
told st (Elapse n) = answered st st (Elapse n)
told st (Recharge s) = answered st (changed st (Recharge s)) (Recharge s)
told st (Lock t r) = answered st (changed st (Lock t r)) (Lock t r)
told st (Unlock t r) = answered st st (Unlock t r)

abbrev pub change_to : State → Answer → ℕ → Change
change_to st a s = record { state = st; answer = a; ends = ends_of st; acting = record { 0 = s } }

unfoldable pub change_of : State → Event → Change
change_of st e = change_to (changed st e) (told st e) (acting st e)

-- dispatch and preempt
unfoldable pub phased_change : Phase → State → ℕ → Change
phased_change p st s = change_to (phased p st s) (hosts st s) nobody
