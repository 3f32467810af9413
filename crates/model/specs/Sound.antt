-- When a state is sound: rules 4.1 to 4.16, one named test for each thing said, in their order.
-- `loose` is all of them but rule 4.6, `seated` that rule alone. Assumes nothing.
use Rattle.std.specs.Prelude.{Bool, not, ◌&&◌, ◌||◌, ℕ, ◌+◌, ◌^◌, ltb, leb, eqb, get_or}
use Rattle.laws.specs.Tests.{◌implies◌, ◌iff◌, bit}
use Rattle.laws.specs.Loops.{count_to, all_to}
use Rattle.model.specs.declared.State.{State}
use Rattle.model.specs.State.{TaskNumber, ServerNumber, ResourceNumber, places, server_at, task_at, resource_at, here, present, declares, idle, recharging, suspended, waiting, awaited, owned, owner_no, placed, executor_number, next, served, running_at, running_for}

-- rule 1.7: p holds of each number in use (of tasks and servers; of resources), and no other is asked
unfoldable pub if_here : State → (ℕ → Bool) → ℕ → Bool
if_here st p i = here st i implies p i

unfoldable pub each : State → (ℕ → Bool) → Bool
each st p = all_to places (if_here st p)

unfoldable pub if_present : State → (ResourceNumber → Bool) → ResourceNumber → Bool
if_present st p r = present st r implies p r

unfoldable pub each_resource : State → (ResourceNumber → Bool) → Bool
each_resource st p = all_to places (if_present st p)

-- rules 1.1 to 1.3: the counts
abbrev pub counts_fit : ℕ → ℕ → ℕ → Bool
counts_fit processors tasks resources = leb 1 processors && leb processors 8 && leb 1 tasks && leb tasks 16 && leb resources 16

-- rule 1.4: quota and period
abbrev pub quota_fits : ℕ → ℕ → Bool
quota_fits quota period = leb 1 quota && leb quota period && leb period 1000000

-- rule 4.2: a declared set has bits of resources in use only
abbrev pub declared_fits : ℕ → ℕ → Bool
declared_fits resources declared = ltb declared (2 ^ resources)

-- rule 1.5: the last tick of the clock
abbrev pub clock_limit : ℕ
clock_limit = 4000000000

-- rule 4.1: counts and clock; and quota and period of a server
unfoldable pub sizes_fit : State → Bool
sizes_fit st = counts_fit st.processors st.tasks st.resources && leb st.clock clock_limit

unfoldable pub reservation_fits : State → ServerNumber → Bool
reservation_fits st s = quota_fits (server_at st s).quota (server_at st s).period

-- rule 4.2
unfoldable pub declaration_fits : State → TaskNumber → Bool
declaration_fits st t = declared_fits st.resources (task_at st t).declared

-- rule 4.3: a deadline is one period from now at the latest
unfoldable pub deadline_fits : State → ServerNumber → Bool
deadline_fits st s = leb (server_at st s).deadline (st.clock + (server_at st s).period)

-- rule 4.4: a budget is within the quota
unfoldable pub budget_fits : State → ServerNumber → Bool
budget_fits st s = leb (server_at st s).budget (server_at st s).quota

-- rule 4.5: no budget is left where the server is Recharging, and only there
unfoldable pub empty_recharges : State → ServerNumber → Bool
empty_recharges st s = eqb (server_at st s).budget 0 iff recharging (server_at st s).phase

-- rule 4.6: no more servers are Running than there are processors
unfoldable pub seated : State → Bool
seated st = leb (count_to places (running_at st)) st.processors

-- place j of t's stack is in use, and has r
unfoldable pub held_at : State → TaskNumber → ResourceNumber → ℕ → Bool
held_at st t r j = ltb j (task_at st t).depth && eqb (get_or (task_at st t).held j 0) r

-- place j of r's queue is in use, and has t
unfoldable pub queued_at : State → ResourceNumber → TaskNumber → ℕ → Bool
queued_at st r t j = ltb j (resource_at st r).waiting && eqb (get_or (resource_at st r).queue j (record { 0 = 0 })).0 t

-- rule 4.7: stacks and queues are no longer than their arrays and hold numbers in use only,
unfoldable pub stack_place_fits : State → TaskNumber → ℕ → Bool
stack_place_fits st t j = ltb j (task_at st t).depth implies present st (get_or (task_at st t).held j 0)

unfoldable pub stack_fits : State → TaskNumber → Bool
stack_fits st t = leb (task_at st t).depth places && all_to places (stack_place_fits st t)

unfoldable pub queue_place_fits : State → ResourceNumber → ℕ → Bool
queue_place_fits st r j = ltb j (resource_at st r).waiting implies here st (get_or (resource_at st r).queue j (record { 0 = 0 })).0

unfoldable pub queue_fits : State → ResourceNumber → Bool
queue_fits st r = leb (resource_at st r).waiting places && all_to places (queue_place_fits st r)

-- and owners and awaited resources are numbers in use
unfoldable pub owner_fits : State → ResourceNumber → Bool
owner_fits st r = owned (resource_at st r).owner implies here st (owner_no (resource_at st r).owner)

unfoldable pub wait_fits : State → TaskNumber → Bool
wait_fits st t = waiting (task_at st t).mode implies present st (awaited (task_at st t).mode)

-- rule 4.8: r stands once in t's stack where t owns it, and not at all where not
unfoldable pub stack_agrees : State → TaskNumber → ResourceNumber → Bool
stack_agrees st t r = eqb (count_to places (held_at st t r)) (bit (eqb (owner_no (resource_at st r).owner) t))

-- rule 4.9: t stands once in r's queue where t waits for it, and not at all where not
unfoldable pub queue_agrees : State → TaskNumber → ResourceNumber → Bool
queue_agrees st t r = eqb (count_to places (queued_at st r t)) (bit (eqb (awaited (task_at st t).mode) r))

unfoldable pub entries_agree : State → TaskNumber → Bool
entries_agree st t = each_resource st (stack_agrees st t) && each_resource st (queue_agrees st t)

-- rule 4.10: nobody waits for what nobody owns
unfoldable pub unowned_unqueued : State → ResourceNumber → Bool
unowned_unqueued st r = not (owned (resource_at st r).owner) implies eqb (resource_at st r).waiting 0

-- rule 4.11: a task owns and awaits only what it declares
unfoldable pub used_declared : State → TaskNumber → ResourceNumber → Bool
used_declared st t r = eqb (owner_no (resource_at st r).owner) t || eqb (awaited (task_at st t).mode) r implies declares st t r

unfoldable pub all_declared : State → TaskNumber → Bool
all_declared st t = each_resource st (used_declared st t)

-- rule 4.12: the chain from t comes to a task without a link, so that it does not close
unfoldable pub chain_open : State → TaskNumber → Bool
chain_open st t = leb places (next st (served st t))

-- rule 4.13: Idle behind a task that is suspended, and nowhere else, Recharging servers left aside
unfoldable pub idle_fits : State → ServerNumber → Bool
idle_fits st s = recharging (server_at st s).phase || (idle (server_at st s).phase iff suspended (task_at st (served st s)).mode)

-- rule 4.14: where t executes, there is a Running server that serves it
unfoldable pub executor_fits : State → TaskNumber → Bool
executor_fits st t = placed (task_at st t).runs implies running_for st t (executor_number (task_at st t).runs)

-- rule 4.15: what a Running server serves executes; in one server only, since a task's entry has one (rule 2.5)
unfoldable pub served_executes : State → ServerNumber → Bool
served_executes st s = running_at st s implies placed (task_at st (served st s)).runs

-- rule 4.16: no account has more ticks than the clock, and the three of a server together have not
unfoldable pub accounts_fit : State → ℕ → Bool
accounts_fit st i =
    leb (server_at st i).own st.clock
    && leb (server_at st i).lent st.clock
    && leb (server_at st i).spin st.clock
    && leb (task_at st i).executed st.clock
    && leb ((server_at st i).own + (server_at st i).lent + (server_at st i).spin) st.clock

unfoldable pub loose : State → Bool
loose st =
    sizes_fit st
    && each st (reservation_fits st)
    && each st (declaration_fits st)
    && each st (deadline_fits st)
    && each st (budget_fits st)
    && each st (empty_recharges st)
    && each st (stack_fits st)
    && each_resource st (queue_fits st)
    && each_resource st (owner_fits st)
    && each st (wait_fits st)
    && each st (entries_agree st)
    && each_resource st (unowned_unqueued st)
    && each st (all_declared st)
    && each st (chain_open st)
    && each st (idle_fits st)
    && each st (executor_fits st)
    && each st (served_executes st)
    && each st (accounts_fit st)

unfoldable pub sound : State → Bool
sound st = loose st && seated st
