-- Every example holds, computed by the checker from the definitions: `marked` is the theorem of the table of marked examples. Assumes nothing.
use mathlib.Core.Path.{◌≡◌, refl}
use mathlib.Core.Bool.{true, ◌||◌}
use mathlib.Core.List.{List, ◌++◌}
use Prim.Native.Nat.{ℕ}
use lib.Dec.{ltb, eqb}
use Rattle.model.specs.declared.State.{State}
use Rattle.model.specs.declared.Event.TheVariants.{Elapse}
use Rattle.model.specs.declared.Answer.TheVariants.{Ok, Refused}
use Rattle.model.specs.declared.Phase.TheVariants.{Idle, Active}
use Rattle.laws.specs.Tests.{first_of}
use Rattle.laws.specs.Loops.{count_to, all_to, sum_to, set_to, fold_to, better_of, best_to, join_to}
use Rattle.reordering.specs.Run.{after, log}
use Rattle.model.specs.State.{server_at, here, present, declares, owner_of, next, chain_end, served, running_at, running_for, executor_of, executing, executes}
use Rattle.model.specs.Sound.{if_here, each, if_present, each_resource, sizes_fit, reservation_fits, declaration_fits, deadline_fits, budget_fits, empty_recharges, seated, held_at, queued_at, stack_place_fits, stack_fits, queue_place_fits, queue_fits, owner_fits, wait_fits, stack_agrees, queue_agrees, entries_agree, unowned_unqueued, used_declared, all_declared, chain_open, idle_fits, executor_fits, served_executes, accounts_fit, loose, sound}
use Rattle.model.specs.Fresh.{counts_refusal, entry_refusal, task_refusal, fresh_refusal, fresh_server_at, fresh_task_at, fresh_state, fresh_of}
use Rattle.model.specs.RuleH.{budget_at, chosen, executor_by, settled_task, settled}
use Rattle.model.specs.Events.{server_by, each_server, wakes, woken_server, woken, rests, rested_server, rested, slept, phased, own_ticks, lent_ticks, spin_ticks, runs_out, spent_server, ticked_task, task_by, elapsed, recharged_phase, recharged, next_in_queue, shifted, granted, joined, rested_end, locked, freed, passed, unlocked}
use Rattle.model.specs.Step.{crowded, affords, ends_at, top_of, state_after, attempted, stepped}
use Rattle.model.specs.Meter.{row_of, metered_row, metered_rows, meter_refusal, metered}
use Rattle.model.specs.Groups.{not_in_both, shares, not_from, found_next, spread, in_group, any_key, group_of}
use Rattle.bound.specs.Sets as sets
use Rattle.bound.specs.Table as sections
use Rattle.bound.specs.Interference as interference
use Rattle.bound.specs.Answer as bounded
use Rattle.lent_bytes.specs.Numbers.{two_bytes, four_bytes, two, four}
use Rattle.lent_bytes.specs.Text.{bytes, digits, decimal}
use Rattle.trace.specs.Reading.{body_length, entry_in, record_in, read_fault, read_at, items_from, items_at, items}
use Rattle.listing.specs.Text.{field, newline, spelled, phase_word}
use Rattle.listing.specs.Listing.{event_line, stop_line, server_line, task_line, end_lines, items_text, listing}
use Rattle.marked.specs.Clauses as clauses
use Rattle.marked.specs.Example.{Example, AllHold, ◌and◌, nothing}
use Rattle.marked.specs.Trace.{wake}
use Rattle.marked.specs.Marked.{table_r, table}
use Rattle.marked.specs.Runs.{runs}
use Rattle.marked.specs.Answers.{answered}
use Rattle.marked.specs.States.{states}
use Rattle.marked.specs.Starts.{beginnings}
use Rattle.marked.specs.Traces.{traces}
use Rattle.marked.specs.Orders.{orders}
use Rattle.marked.specs.Bounds.{calculations}
use Rattle.marked.specs.Further.{further}

-- every sound state refuses such an elapse
elapse_refused
    : (n : ℕ) → (eqb n 0 || ltb 1000000 n) ≡ true → (st : State) → sound st ≡ true → stepped st (Elapse n) ≡ record { answer = Refused 10; state = st }
unfolding stepped attempted first_of
elapse_refused n e st h = rw (h, e)

-- the first event of case R has an answer and a change of its own
abbrev pub FirstWake : Type 0
FirstWake =
    ((stepped (fresh_state table_r) (wake 2)).answer ≡ Ok 1) ×
    ((server_at (fresh_state table_r) 2).phase ≡ Idle) ×
    ((server_at (stepped (fresh_state table_r) (wake 2)).state 2).phase ≡ Active)

examples
    : AllHold table × AllHold runs × AllHold answered × AllHold states × AllHold beginnings × AllHold traces × AllHold orders × AllHold calculations
    × FirstWake
unfolding first_of count_to all_to sum_to set_to fold_to better_of best_to join_to after log here present declares owner_of next chain_end served running_at running_for
    executor_of executing executes if_here each if_present each_resource sizes_fit reservation_fits declaration_fits deadline_fits budget_fits empty_recharges
    seated held_at queued_at stack_place_fits stack_fits queue_place_fits queue_fits owner_fits wait_fits stack_agrees queue_agrees entries_agree unowned_unqueued
    used_declared all_declared chain_open idle_fits executor_fits served_executes accounts_fit loose sound counts_refusal entry_refusal task_refusal fresh_refusal
    fresh_server_at fresh_task_at fresh_state fresh_of budget_at chosen executor_by settled_task settled server_by each_server wakes woken_server woken rests
    rested_server rested slept phased own_ticks lent_ticks spin_ticks runs_out spent_server ticked_task task_by elapsed recharged_phase recharged next_in_queue
    shifted granted joined rested_end locked freed passed unlocked crowded affords ends_at top_of state_after attempted stepped sets.in_either sets.joined sets.not_in_both
    sets.meets sections.around sections.outer sections.section_fits sections.child_length sections.children_fit sections.section_refusal sections.table_refusal
    sections.refusal interference.gathered interference.weighing_if interference.weighed_on interference.best interference.tried_next interference.order
    interference.blocker interference.blockers interference.ordering interference.sum_over interference.sums interference.level interference.bound
    bounded.answer two_bytes four_bytes two four body_length entry_in record_in read_fault read_at items_from items_at items bytes digits decimal field newline spelled phase_word
    event_line stop_line server_line task_line end_lines items_text listing row_of metered_row metered_rows meter_refusal metered not_in_both shares not_from found_next
    spread in_group any_key group_of clauses.quota_from1 clauses.quota_to_period clauses.period_to_limit clauses.depth_fits clauses.entries_present
    clauses.waiting_fits clauses.waiters_here clauses.stacks_agree clauses.queues_agree clauses.owner_declares clauses.waiter_declares clauses.all_held_declared
    clauses.all_awaited_declared clauses.own_fits clauses.lent_fits clauses.spin_fits clauses.executed_fits clauses.sum_fits clauses.broken_of clauses.broken
examples = (
  refl and refl and refl and elapse_refused 0 refl and elapse_refused 1000001 refl and refl and refl and refl and refl and
      refl and refl and refl and refl and refl and nothing,
  refl and refl and refl and refl and refl and refl and refl and refl and refl and refl and refl and refl and refl and refl and refl and
      refl and nothing,
  refl and refl and refl and refl and refl and refl and refl and refl and refl and refl and refl and refl and refl and refl and refl and
      refl and refl and refl and refl and refl and refl and refl and refl and refl and refl and refl and refl and refl and refl and refl and
      refl and refl and refl and refl and refl and refl and refl and refl and refl and refl and refl and refl and refl and refl and refl and
      refl and refl and refl and refl and refl and refl and refl and refl and refl and refl and nothing,
  refl and refl and refl and refl and refl and refl and refl and refl and refl and refl and refl and refl and refl and refl and refl and
      refl and refl and refl and refl and refl and refl and refl and refl and refl and refl and refl and refl and refl and refl and refl and
      refl and refl and refl and refl and refl and refl and refl and refl and refl and refl and refl and refl and refl and refl and refl and
      refl and refl and refl and refl and refl and refl and refl and nothing,
  refl and refl and refl and refl and refl and refl and refl and refl and refl and refl and refl and refl and refl and refl and refl and
      refl and refl and refl and refl and refl and nothing,
  refl and refl and refl and refl and refl and refl and refl and refl and refl and refl and refl and refl and refl and refl and refl and
      refl and refl and refl and refl and refl and refl and refl and refl and refl and refl and refl and refl and refl and refl and refl and
      refl and refl and refl and refl and refl and refl and refl and refl and refl and refl and refl and refl and refl and refl and refl and
      refl and refl and refl and nothing,
  refl and refl and refl and refl and refl and refl and refl and refl and refl and refl and refl and refl and refl and refl and nothing,
  refl and refl and refl and refl and nothing,
  (refl, refl, refl),
)

pub marked : AllHold table
marked = examples.0

-- the examples of one list, and those of another
infixl 5 ◌also◌
◌also◌ : {xs ys : List Example} → AllHold xs → AllHold ys → AllHold (xs ++ ys)
nothing also ys = ys
(x and xs) also ys = x and (xs also ys)

pub further_holds : AllHold further
further_holds = examples.1 also examples.2 also examples.3 also examples.4 also examples.5 also examples.6 also examples.7

pub first_wake : FirstWake
first_wake = examples.8
