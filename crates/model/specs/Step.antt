-- One step: refusal, change, rule H, answer. Rules 10.1 to 10.4, and the answers of rules 7.1 to 7.10.
-- `free` is the machine of the same rules without the tests for 1 and 8, through which the theorems on order go. Assumes nothing.
use Rattle.std.specs.Prelude.{Bool, not, ◌&&◌, ◌||◌, List, ℕ, ◌+◌, ◌-◌, ltb, leb, eqb, get_or, if◌then◌else◌}
use Rattle.std.proofs.Math.Option.{Option, none, some}
use Rattle.laws.specs.Tests.{bit, ◌implies◌, ◌when◌or◌, accepted, first_of, without}
use Rattle.laws.specs.Loops.{count_to}
use Rattle.model.specs.declared.Mode.{Mode}
use Rattle.model.specs.declared.Task.{Task}
use Rattle.model.specs.declared.State.{State}
use Rattle.model.specs.declared.Event.{Event}
use Rattle.model.specs.declared.Event.TheVariants.{Wake, Suspend, Dispatch, Preempt, Elapse, Recharge, Lock, Unlock}
use Rattle.model.specs.declared.Answer.{Answer}
use Rattle.model.specs.declared.Answer.TheVariants.{Ok, Executes, Spins, Granted, Waits, Passed, Freed, Refused, RefusedWaiting}
use Rattle.model.specs.declared.Outcome.{Outcome}
use Rattle.model.specs.State.{TaskNumber, ServerNumber, ResourceNumber, places, server_at, task_at, resource_at, here, present, declares, active, running, recharging, suspended, waiting, awaited, owned, owner_no, placed, served, running_at, executes}
use Rattle.model.specs.Sound.{each, clock_limit, sound}
use Rattle.model.specs.RuleH.{settled}
use Rattle.model.specs.Events.{wakes, rests, runs_out, first_waiter, changed, acting, number_of}

-- rule 10.2, number 8: every processor has a Running server
unfoldable pub crowded : State → Bool
crowded st = leb st.processors (count_to places (running_at st))

-- rule 10.2, number 12: if Running, server s has the budget for n ticks
unfoldable pub affords : State → ℕ → ServerNumber → Bool
affords st n s = running_at st s implies leb n (server_at st s).budget

-- rule 10.2, number 16: r has an owner, and the owner's chain ends at t
unfoldable pub ends_at : State → TaskNumber → ResourceNumber → Bool
ends_at st t r = owned (resource_at st r).owner && eqb (served st (owner_no (resource_at st r).owner)) t

-- rule 10.2, number 18: the resource on top of t's stack
unfoldable pub top_of : State → TaskNumber → ResourceNumber
top_of st t = get_or (task_at st t).held ((task_at st t).depth - 1) 0

-- rules 10.2, 10.4, numbers 61 to 63, where a task itself acts: it is suspended, it waits, no Running server serves it; then the tests that follow. In a
-- sound state a task executes where a Running server serves it, and only there (rules 4.14 and 4.15).
abbrev pub stalled : Task → List (ℕ × Bool) → List (ℕ × Bool)
stalled task following =
    61 when suspended task.mode or
    62 when waiting task.mode or
    63 when not (placed task.runs) or
    following

-- rule 10.2: the tests of each event after 1, in their order; rule 10.3: unlock does not ask what is declared
abbrev pub tests : State → Event → List (ℕ × Bool)
tests st (Wake t) = 2 when not (here st t.0) or 5 when not (suspended (task_at st t.0).mode) or accepted
tests st (Suspend t) = 2 when not (here st t.0) or stalled (task_at st t.0) accepted
tests st (Dispatch s) =
    2 when not (here st s.0) or
    7 when not (active (server_at st s.0).phase) or
    8 when crowded st or
    accepted
tests st (Preempt s) = 2 when not (here st s.0) or 9 when not (running (server_at st s.0).phase) or accepted
tests st (Elapse n) =
    10 when eqb n 0 || ltb 1000000 n or
    11 when ltb clock_limit (st.clock + n) or
    12 when not (each st (affords st n)) or
    accepted
tests st (Recharge s) =
    2 when not (here st s.0) or
    13 when not (recharging (server_at st s.0).phase) or
    14 when ltb st.clock (server_at st s.0).deadline or
    accepted
tests st (Lock t r) =
    2 when not (here st t.0) or
    3 when not (present st r) or
    4 when not (declares st t.0 r) or
    stalled
    (task_at st t.0)
    (15 when eqb (owner_no (resource_at st r).owner) t.0 or
    16 when ends_at st t.0 r or
    accepted)
tests st (Unlock t r) =
    2 when not (here st t.0) or
    3 when not (present st r) or
    stalled
    (task_at st t.0)
    (17 when not (eqb (owner_no (resource_at st r).owner) t.0) or
    18 when not (eqb (top_of st t.0) r) or
    accepted)

-- rules 7.1 to 7.10: the answer, from the state before and the state after
abbrev pub answered : State → State → Event → Answer
answered st after (Wake t) = Ok (count_to places (wakes st t.0))
answered st after (Suspend t) = Ok (count_to places (rests st t.0))
answered st after (Dispatch s) =
    if executes after s.0 then Executes (record { 0 = served after s.0 }) else Spins (record { 0 = served after s.0 })
answered st after (Preempt s) = Ok (bit (executes st s.0 && placed (task_at after (served st s.0)).runs))
answered st after (Elapse n) = Ok (count_to places (runs_out st n))
answered st after (Recharge s) = Ok (bit (active (server_at after s.0).phase))
answered st after (Lock t r) =
    if owned (resource_at st r).owner then Waits (record { 0 = served after t.0 }) else Granted r
answered st after (Unlock t r) =
    if eqb (resource_at st r).waiting 0 then Freed r else Passed (record { 0 = first_waiter (resource_at st r) })

-- the state after an event that is not refused
unfoldable pub state_after : State → Event → State
state_after st e = settled st (acting st e) (changed st e)

-- rule 10.1: the answer that refuses by the number n; 62 goes with the resource that the task in this mode awaits
abbrev pub refusing : Mode → ℕ → Answer
refusing mode n = if eqb n 62 then RefusedWaiting (awaited mode) else Refused n

-- rule 10.1: a refused event has such an answer, and the state stays
abbrev pub outcome : Option ℕ → State → Event → Outcome
outcome none st e = record { answer = answered st (state_after st e) e; state = state_after st e }
outcome (some n) st e = record { answer = refusing (task_at st (number_of e)).mode n; state = st }

-- rule 10.2: a step on a state that is sound, and on any state
unfoldable pub attempted : State → Event → Outcome
attempted st e = outcome (first_of (tests st e)) st e

unfoldable pub stepped : State → Event → Outcome
stepped st e = if sound st then attempted st e else record { answer = Refused 1; state = st }

-- the same without the tests for 1 and 8
unfoldable pub free : State → Event → Outcome
free st e = outcome (first_of (without 8 (tests st e))) st e

-- a step as a pair, for runs over lists of events
abbrev pub move : State → Event → Answer × State
move st e = ((stepped st e).answer, (stepped st e).state)
