-- The clauses of soundness (rule 4), each apart and as fine as they can be told: an example can then say which one a state breaks, and that it keeps
-- all others. They are `model.Sound` taken to pieces; `proofs/Clauses` has that a state is sound exactly when it breaks none. Assumes nothing.
use Rattle.std.specs.Prelude.{Bool, true, false, List, [], ◌∷◌, ℕ, ◌+◌, leb, eqb, if◌then◌else◌}
use Rattle.laws.specs.Tests.{◌implies◌}
use Rattle.laws.specs.Loops.{all_to}
use Rattle.model.specs.declared.State.{State}
use Rattle.model.specs.State.{places, server_at, task_at, resource_at, declares, awaited, owner_no}
use Rattle.model.specs.Sound.{each, each_resource, clock_limit, declaration_fits, deadline_fits, budget_fits, empty_recharges, seated, stack_place_fits, queue_place_fits, owner_fits, wait_fits, stack_agrees, queue_agrees, unowned_unqueued, chain_open, idle_fits, executor_fits, served_executes}

pub data Clause : Type 0 where
  someProcessor eightProcessors someTask sixteenTasks sixteenResources clockInRange : Clause
  someQuota quotaInPeriod periodInRange declaredPresent : Clause
  deadline budget emptyRecharging : Clause
  stackLength stackEntries queueLength queueEntries ownerHere awaitedPresent stackAgreement queueAgreement : Clause
  queueOwned heldDeclared awaitedDeclared chainEnds : Clause
  idleSuspended executorServes servedExecuted : Clause
  own_ticks lent_ticks spin_ticks executedTicks serverTicks : Clause
  seats : Clause

-- the parts of the named tests that have several
unfoldable pub quota_from1 : State → ℕ → Bool
quota_from1 st s = leb 1 (server_at st s).quota

unfoldable pub quota_to_period : State → ℕ → Bool
quota_to_period st s = leb (server_at st s).quota (server_at st s).period

unfoldable pub period_to_limit : State → ℕ → Bool
period_to_limit st s = leb (server_at st s).period 1000000

unfoldable pub depth_fits : State → ℕ → Bool
depth_fits st t = leb (task_at st t).depth places

unfoldable pub entries_present : State → ℕ → Bool
entries_present st t = all_to places (stack_place_fits st t)

unfoldable pub waiting_fits : State → ℕ → Bool
waiting_fits st r = leb (resource_at st r).waiting places

unfoldable pub waiters_here : State → ℕ → Bool
waiters_here st r = all_to places (queue_place_fits st r)

unfoldable pub stacks_agree : State → ℕ → Bool
stacks_agree st t = each_resource st (stack_agrees st t)

unfoldable pub queues_agree : State → ℕ → Bool
queues_agree st t = each_resource st (queue_agrees st t)

unfoldable pub owner_declares : State → ℕ → ℕ → Bool
owner_declares st t r = eqb (owner_no (resource_at st r).owner) t implies declares st t r

unfoldable pub waiter_declares : State → ℕ → ℕ → Bool
waiter_declares st t r = eqb (awaited (task_at st t).mode) r implies declares st t r

unfoldable pub all_held_declared : State → ℕ → Bool
all_held_declared st t = each_resource st (owner_declares st t)

unfoldable pub all_awaited_declared : State → ℕ → Bool
all_awaited_declared st t = each_resource st (waiter_declares st t)

unfoldable pub own_fits : State → ℕ → Bool
own_fits st s = leb (server_at st s).own st.clock

unfoldable pub lent_fits : State → ℕ → Bool
lent_fits st s = leb (server_at st s).lent st.clock

unfoldable pub spin_fits : State → ℕ → Bool
spin_fits st s = leb (server_at st s).spin st.clock

unfoldable pub executed_fits : State → ℕ → Bool
executed_fits st t = leb (task_at st t).executed st.clock

unfoldable pub sum_fits : State → ℕ → Bool
sum_fits st s = leb ((server_at st s).own + (server_at st s).lent + (server_at st s).spin) st.clock

-- whether a state keeps a clause
abbrev pub keeps : State → Clause → Bool
keeps st someProcessor = leb 1 st.processors
keeps st eightProcessors = leb st.processors 8
keeps st someTask = leb 1 st.tasks
keeps st sixteenTasks = leb st.tasks 16
keeps st sixteenResources = leb st.resources 16
keeps st clockInRange = leb st.clock clock_limit
keeps st someQuota = each st (quota_from1 st)
keeps st quotaInPeriod = each st (quota_to_period st)
keeps st periodInRange = each st (period_to_limit st)
keeps st declaredPresent = each st (declaration_fits st)
keeps st deadline = each st (deadline_fits st)
keeps st budget = each st (budget_fits st)
keeps st emptyRecharging = each st (empty_recharges st)
keeps st stackLength = each st (depth_fits st)
keeps st stackEntries = each st (entries_present st)
keeps st queueLength = each_resource st (waiting_fits st)
keeps st queueEntries = each_resource st (waiters_here st)
keeps st ownerHere = each_resource st (owner_fits st)
keeps st awaitedPresent = each st (wait_fits st)
keeps st stackAgreement = each st (stacks_agree st)
keeps st queueAgreement = each st (queues_agree st)
keeps st queueOwned = each_resource st (unowned_unqueued st)
keeps st heldDeclared = each st (all_held_declared st)
keeps st awaitedDeclared = each st (all_awaited_declared st)
keeps st chainEnds = each st (chain_open st)
keeps st idleSuspended = each st (idle_fits st)
keeps st executorServes = each st (executor_fits st)
keeps st servedExecuted = each st (served_executes st)
keeps st own_ticks = each st (own_fits st)
keeps st lent_ticks = each st (lent_fits st)
keeps st spin_ticks = each st (spin_fits st)
keeps st executedTicks = each st (executed_fits st)
keeps st serverTicks = each st (sum_fits st)
keeps st seats = seated st

abbrev pub clauses : List Clause
clauses =
    someProcessor ∷ eightProcessors ∷ someTask ∷ sixteenTasks ∷ sixteenResources ∷ clockInRange ∷ someQuota ∷ quotaInPeriod ∷ periodInRange
    ∷ declaredPresent ∷ deadline ∷ budget ∷ emptyRecharging ∷ stackLength ∷ stackEntries ∷ queueLength ∷ queueEntries ∷ ownerHere ∷ awaitedPresent
    ∷ stackAgreement ∷ queueAgreement ∷ queueOwned ∷ heldDeclared ∷ awaitedDeclared ∷ chainEnds ∷ idleSuspended ∷ executorServes ∷ servedExecuted
    ∷ own_ticks ∷ lent_ticks ∷ spin_ticks ∷ executedTicks ∷ serverTicks ∷ seats ∷ []

-- of some clauses, those that a state breaks
unfoldable pub broken_of : State → List Clause → List Clause
broken_of st [] = []
broken_of st (c ∷ cs) = if keeps st c then broken_of st cs else c ∷ broken_of st cs

unfoldable pub broken : State → List Clause
broken st = broken_of st clauses

abbrev pub empty : List Clause → Bool
empty [] = true
empty (c ∷ cs) = false
