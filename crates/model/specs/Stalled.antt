-- Why a task does not act, in the words of rule 10.4, and which events ask it. Assumes nothing.
use Rattle.std.specs.Prelude.{◌≡◌, Bool, true, not, ◌&&◌}
use Rattle.laws.specs.Loops.{all_to}
use Rattle.model.specs.declared.State.{State}
use Rattle.model.specs.declared.Event.{Event}
use Rattle.model.specs.declared.Event.TheVariants.{Wake, Suspend, Dispatch, Preempt, Elapse, Recharge, Lock, Unlock}
use Rattle.model.specs.State.{TaskNumber, ServerNumber, places, task_at, here, present, declares, suspended, waiting, running_for}

-- rule 10.4, number 61: it is suspended
abbrev pub asleep : State → TaskNumber → Bool
asleep st t = suspended (task_at st t).mode

-- rule 10.4, number 62: it waits for a resource
abbrev pub awaits : State → TaskNumber → Bool
awaits st t = waiting (task_at st t).mode

-- rule 10.4, number 63: it is ready, and no Running server serves it, which the chains tell (rule 3.3)
unfoldable pub not_running_for : State → TaskNumber → ServerNumber → Bool
not_running_for st t s = not (running_for st t s)

unfoldable pub unserved : State → TaskNumber → Bool
unserved st t = not (asleep st t) && not (awaits st t) && all_to places (not_running_for st t)

-- rule 10.2: the event is what a task itself does, and the tests before 61 let it through
abbrev pub Admitted : State → Event → Type 0
Admitted st (Wake t) = ⊥
Admitted st (Suspend t) = here st t.0 ≡ true
Admitted st (Dispatch s) = ⊥
Admitted st (Preempt s) = ⊥
Admitted st (Elapse n) = ⊥
Admitted st (Recharge s) = ⊥
Admitted st (Lock t r) = (here st t.0 ≡ true) × (present st r ≡ true) × (declares st t.0 r ≡ true)
Admitted st (Unlock t r) = (here st t.0 ≡ true) × (present st r ≡ true)
