-- Sound states, and for each clause of soundness a state beside a sound one that breaks it alone. Assumes nothing.
use Rattle.std.specs.Prelude.{List, [], ◌∷◌, ℕ, replicate, None}
use Rattle.model.specs.declared.Phase.TheVariants.{Idle, Active, Running, Recharging}
use Rattle.model.specs.declared.Mode.TheVariants.{Suspended, Ready, Waiting}
use Rattle.model.specs.declared.Server.{Server}
use Rattle.model.specs.declared.Task.{Task}
use Rattle.model.specs.declared.Resource.{Resource}
use Rattle.model.specs.declared.State.{State}
use Rattle.model.specs.Fresh.{fresh_state}
use Rattle.model.specs.Events.{with_clock, with_server, with_task, with_resource, pushed, enqueued}
use Rattle.marked.specs.Trace.{line, table_of, trace_of}
use Rattle.marked.specs.Entries.{server, task, resource, by, state_of, counted}
use Rattle.marked.specs.Clauses.{someProcessor, eightProcessors, someTask, sixteenTasks, sixteenResources, clockInRange, someQuota, quotaInPeriod, periodInRange, declaredPresent, deadline, budget, emptyRecharging, stackLength, stackEntries, queueLength, queueEntries, ownerHere, awaitedPresent, stackAgreement, queueAgreement, queueOwned, heldDeclared, awaitedDeclared, chainEnds, idleSuspended, executorServes, servedExecuted, own_ticks, lent_ticks, spin_ticks, executedTicks, serverTicks, seats}
use Rattle.marked.specs.Example.{Example, prints, stands, breaks}
use Rattle.marked.specs.Marked.{on}
use Rattle.marked.specs.Desk.{table_desk, to_desk, desk}

-- one task asleep; sixteen of them with sixteen resources
abbrev pub calm : State
calm = fresh_state (table_of 1 0 (line 10 20 0 ∷ []))

abbrev pub crowd : State
crowd = fresh_state (table_of 1 16 (replicate 16 (line 10 20 65535)))

-- one task that holds all sixteen resources
abbrev pub hoarder : Task
hoarder = task Suspended None 65535 (0 ∷ 1 ∷ 2 ∷ 3 ∷ 4 ∷ 5 ∷ 6 ∷ 7 ∷ 8 ∷ 9 ∷ 10 ∷ 11 ∷ 12 ∷ 13 ∷ 14 ∷ 15 ∷ []) 0

abbrev pub hoard : Task → State
hoard k = state_of 1 0 (server Idle 10 0 10 20 0 0 0 ∷ []) (k ∷ []) (replicate 16 (resource (by 0) []))

-- the desk with another entry
abbrev pub other_server : ℕ → Server → State
other_server s x = with_server s x desk

abbrev pub other_task : ℕ → Task → State
other_task t x = with_task t x desk

abbrev pub other_resource : ℕ → Resource → State
other_resource r x = with_resource r x desk

-- task 2 waits for a resource that it holds itself
abbrev pub self_wait : State
self_wait = with_resource 2 (resource (by 2) (2 ∷ [])) (other_task 2 (task (Waiting 2) None 4 (2 ∷ []) 0))

-- tasks 2 and 3 hold 2 and 1, and each waits for the other's
abbrev pub two_wait : State
two_wait =
    with_resource 1
    (resource (by 3) (2 ∷ []))
    (with_resource 2
    (resource (by 2) (3 ∷ []))
    (with_task 0
    (task Ready (on 0) 3 (0 ∷ []) 3)
    (with_task 2
    (task (Waiting 1) None 6 (2 ∷ []) 0)
    (with_server 3 (server Active 10 20 10 20 0 0 0) (other_task 3 (task (Waiting 2) None 6 (1 ∷ []) 0))))))

-- task 2 waits for what task 3 holds, which sleeps; server 2 is this
abbrev pub behind_sleeper : Server → State
behind_sleeper s =
    with_server 2 s
    (with_resource 2 (resource (by 3) (2 ∷ [])) (with_task 2 (task (Waiting 2) None 4 [] 0) (other_task 3 (task Suspended None 4 (2 ∷ []) 0))))

abbrev pub states : List Example
states =
    -- the desk is what its events lead to, as far as a listing tells
    prints (trace_of table_desk to_desk)
    "1 ok 1\n2 executes 0\n3 granted 0\n4 granted 1\n5 ok 1\n6 executes 1\n7 waits 0\n8 ok 1\n9 ok 0\nend 3\nserver 0 running 7 20 3 0 0\nserver 1 running 7 20 0 0 3\nserver 2 active 10 20 0 0 0\nserver 3 idle 10 0 0 0 0\ntask 0 3\ntask 1 0\ntask 2 0\ntask 3 0\n"
    -- it is sound; at its limits too, and whatever stands in entries past the counts
    ∷ stands desk
    ∷ stands (counted 8 4 3 (with_clock 4000000000 desk))
    ∷ stands crowd
    ∷ stands (hoard hoarder)
    ∷ stands (other_server 3 (server Idle 10 23 20 20 3 0 0))
    ∷ stands (behind_sleeper (server Idle 10 20 10 20 0 0 0))
    ∷ stands
    (with_server 4 (server Running 0 99 0 5 9 9 9) (with_task 4 (task (Waiting 9) (on 3) 99 (7 ∷ []) 9) (other_resource 3 (resource (by 4) (9 ∷ [])))))
    -- sizes
    ∷ breaks (counted 0 1 0 calm) (someProcessor ∷ [])
    ∷ breaks (counted 9 1 0 calm) (eightProcessors ∷ [])
    ∷ breaks (counted 1 0 0 calm) (someTask ∷ [])
    ∷ breaks (counted 1 17 16 crowd) (sixteenTasks ∷ [])
    ∷ breaks (counted 1 1 17 calm) (sixteenResources ∷ [])
    ∷ breaks (with_clock 4000000001 calm) (clockInRange ∷ [])
    ∷ breaks (other_server 3 (server Recharging 0 0 0 20 0 0 0)) (someQuota ∷ [])
    ∷ breaks (other_server 3 (server Idle 10 0 21 20 0 0 0)) (quotaInPeriod ∷ [])
    ∷ breaks (other_server 3 (server Idle 10 0 10 1000001 0 0 0)) (periodInRange ∷ [])
    ∷ breaks (other_task 3 (task Suspended None 8 [] 0)) (declaredPresent ∷ [])
    -- deadline and budget
    ∷ breaks (other_server 3 (server Idle 10 24 10 20 0 0 0)) (deadline ∷ [])
    ∷ breaks (other_server 3 (server Idle 11 0 10 20 0 0 0)) (budget ∷ [])
    ∷ breaks (other_server 3 (server Idle 0 0 10 20 0 0 0)) (emptyRecharging ∷ [])
    ∷ breaks (other_server 3 (server Recharging 1 0 10 20 0 0 0)) (emptyRecharging ∷ [])
    -- numbers in stacks and queues, owners and awaited resources. A queue longer than its places can't be broken alone: its sixteen entries
    -- would be all sixteen tasks, each waiting for the resource, its owner too, and the chain would close.
    ∷ breaks (hoard (pushed 0 hoarder)) (stackLength ∷ [])
    ∷ breaks (other_task 3 (task Suspended None 4 (9 ∷ []) 0)) (stackEntries ∷ [])
    ∷ breaks (other_resource 1 (enqueued 9 (resource (by 0) (replicate 16 9)))) (queueLength ∷ queueEntries ∷ [])
    ∷ breaks (other_resource 1 (resource (by 0) (9 ∷ []))) (queueEntries ∷ [])
    ∷ breaks (other_resource 2 (resource (by 9) [])) (ownerHere ∷ [])
    ∷ breaks (other_task 2 (task (Waiting 9) None 4 [] 0)) (awaitedPresent ∷ [])
    -- owned and on no stack; on a stack twice; on a stack and not owned
    ∷ breaks (other_resource 2 (resource (by 3) [])) (stackAgreement ∷ [])
    ∷ breaks (other_task 0 (task Ready (on 0) 3 (0 ∷ 1 ∷ 1 ∷ []) 3)) (stackAgreement ∷ [])
    ∷ breaks (other_task 3 (task Suspended None 4 (2 ∷ []) 0)) (stackAgreement ∷ [])
    -- waiting and in no queue; in a queue twice; in a queue and not waiting
    ∷ breaks (other_resource 0 (resource (by 0) [])) (queueAgreement ∷ [])
    ∷ breaks (other_resource 0 (resource (by 0) (1 ∷ 1 ∷ []))) (queueAgreement ∷ [])
    ∷ breaks (other_resource 0 (resource (by 0) (1 ∷ 3 ∷ []))) (queueAgreement ∷ [])
    -- waiting for what nobody owns; holding and awaiting what is not declared; closed chains of one task and of two
    ∷ breaks (with_resource 2 (resource None (2 ∷ [])) (other_task 2 (task (Waiting 2) None 4 [] 0))) (queueOwned ∷ [])
    ∷ breaks (other_task 0 (task Ready (on 0) 1 (0 ∷ 1 ∷ []) 3)) (heldDeclared ∷ [])
    ∷ breaks (other_task 1 (task (Waiting 0) None 2 [] 0)) (awaitedDeclared ∷ [])
    ∷ breaks self_wait (chainEnds ∷ [])
    ∷ breaks two_wait (chainEnds ∷ [])
    -- Idle before a ready task; Active before a sleeping one, and before one that waits for it
    ∷ breaks (other_task 3 (task Ready None 4 [] 0)) (idleSuspended ∷ [])
    ∷ breaks (other_task 2 (task Suspended None 4 [] 0)) (idleSuspended ∷ [])
    ∷ breaks (behind_sleeper (server Active 10 20 10 20 0 0 0)) (idleSuspended ∷ [])
    -- executing in a server that is not Running, in one that serves another task, in one past the counts; served, and executing nowhere
    ∷ breaks (other_task 2 (task Ready (on 2) 4 [] 0)) (executorServes ∷ [])
    ∷ breaks (other_task 2 (task Ready (on 1) 4 [] 0)) (executorServes ∷ [])
    ∷ breaks (other_task 2 (task Ready (on 9) 4 [] 0)) (executorServes ∷ [])
    ∷ breaks (other_task 0 (task Ready None 3 (0 ∷ 1 ∷ []) 3)) (servedExecuted ∷ [])
    -- accounts, at clock 3. None of own, lent and spin passes the clock without their sum.
    ∷ breaks (other_server 3 (server Idle 10 0 10 20 4 0 0)) (own_ticks ∷ serverTicks ∷ [])
    ∷ breaks (other_server 3 (server Idle 10 0 10 20 0 4 0)) (lent_ticks ∷ serverTicks ∷ [])
    ∷ breaks (other_server 3 (server Idle 10 0 10 20 0 0 4)) (spin_ticks ∷ serverTicks ∷ [])
    ∷ breaks (other_server 3 (server Idle 10 0 10 20 2 1 1)) (serverTicks ∷ [])
    ∷ breaks (other_task 3 (task Suspended None 4 [] 4)) (executedTicks ∷ [])
    -- two servers run on one processor
    ∷ breaks (counted 1 4 3 desk) (seats ∷ [])
    ∷ []
