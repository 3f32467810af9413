-- Theorems on fresh: the state of a table that is not refused is sound and shaped; that of a refused one is not sound. Assumes nothing.
use mathlib.Core.Path.{◌≡◌, refl, sym, ap, ◌∙◌}
use mathlib.Core.Bool.{true, false, true≢false}
use mathlib.Core.Logic.{inr, ⊎_elim}
use mathlib.Core.Option.{none}
use Prim.Native.Nat.{ℕ, ◌<◌}
use native.Mathlib.Omega.{arith}
use lib.Dec.{ltb}
use lib.ListN.{length, replicate, get_or-replicate}
use borrow.Author.Tests.{ltb-true, lt-ltb, le-ltb, ne_eqb}
use Rattle.laws.specs.Tests.{bit}
use Rattle.laws.specs.Loops.{count_to}
use Rattle.laws.proofs.Cases.{split, if_yes}
use Rattle.laws.proofs.Count.{count_zero}
use Rattle.laws.proofs.Set.{set_at_lem, length_set_to}
use Rattle.laws.proofs.Reflect.{reflects_false}
use Rattle.model.specs.declared.Table.{Table}
use Rattle.model.specs.declared.State.{State}
use Rattle.model.specs.State.{places, nobody, server_at, task_at, resource_at, here, present, no_server, no_task, no_resource, next, served, running_at}
use Rattle.model.specs.Sound.{quota_fits, declared_fits, held_at, queued_at, sound}
use Rattle.model.specs.Shape.{Shaped}
use Rattle.model.specs.Fresh.{entry_at, counts_refusal, entry_refusal, fresh_refusal, blank_server, blank_task, blank_resource, fresh_server, fresh_task, fresh_server_at, fresh_task_at, fresh_state, unusable}
use Rattle.model.proofs.Chain.{here_below, here_tasks, present_below, owner_past, present_past, end_itself}
use Rattle.model.proofs.Sound.{Counts, counts_fact, Quota, quota_fact, Sound, sound_facts}
use Rattle.fresh.proofs.Refusals.{counts_fit_lem, tests_none, entry_none}

module _ (tb : Table) (accepted : fresh_refusal tb ≡ none) where
  abbrev st : State
  st = fresh_state tb

  -- what the table says
  told : (counts_refusal tb ≡ none) × ((t : ℕ) → t < places → t < tb.tasks → entry_refusal tb.resources (entry_at tb t) ≡ none)
  unfolding fresh_refusal
  told = tests_none tb places (counts_refusal tb) accepted

  counts : Counts tb.processors tb.tasks tb.resources
  counts = (counts_fact tb.processors tb.tasks tb.resources).holds (counts_fit_lem tb told.0)

  entry_told : (i : ℕ) → here st i ≡ true → (quota_fits (entry_at tb i).quota (entry_at tb i).period ≡ true) × (declared_fits tb.resources (entry_at tb i).declared ≡ true)
  unfolding fresh_state
  entry_told i h = entry_none tb.resources (entry_at tb i) (told.1 i (here_below st i h) (here_tasks st i h))

  quota_told : (i : ℕ) → here st i ≡ true → Quota (entry_at tb i).quota (entry_at tb i).period
  quota_told i h = (quota_fact (entry_at tb i).quota (entry_at tb i).period).holds (entry_told i h).0

  -- what the state has
  server_fresh : (i : ℕ) → here st i ≡ true → server_at st i ≡ fresh_server (entry_at tb i)
  unfolding fresh_state fresh_server_at
  server_fresh i h =
      set_at_lem places i (fresh_server_at tb) (replicate places blank_server) no_server (here_below st i h) (here_below st i h)
      ∙ if_yes _ _ _ (lt-ltb _ _ (here_tasks st i h))

  task_fresh : (i : ℕ) → here st i ≡ true → task_at st i ≡ fresh_task (entry_at tb i)
  unfolding fresh_state fresh_task_at
  task_fresh i h =
      set_at_lem places i (fresh_task_at tb) (replicate places blank_task) no_task (here_below st i h) (here_below st i h)
      ∙ if_yes _ _ _ (lt-ltb _ _ (here_tasks st i h))

  resource_fresh : (r : ℕ) → present st r ≡ true → resource_at st r ≡ blank_resource
  unfolding fresh_state
  resource_fresh r p = get_or-replicate places r blank_resource no_resource (present_below st r p)

  -- nobody waits, so each chain is its first task
  next_fresh : (t : ℕ) → next st t ≡ nobody
  unfolding next
  next_fresh t =
      split
      (here st t)
      (λ y. rw (y, task_fresh t y) (owner_past st nobody (present_past st nobody (omega arith))))
      (λ n. rw n)

  served_fresh : (t : ℕ) → served st t ≡ t
  served_fresh t = end_itself st t (omega (arith, next_fresh t))

  idle_fresh : (i : ℕ) → running_at st i ≡ false
  unfolding running_at
  idle_fresh i = split (here st i) (λ y. rw (y, server_fresh i y)) (λ n. rw n)

  stacks_fresh : (i r : ℕ) → here st i ≡ true → count_to places (held_at st i r) ≡ 0
  unfolding held_at
  stacks_fresh i r y = count_zero places (held_at st i r) (λ j l. rw (task_fresh i y, le-ltb j 0 (omega arith)))

  queues_fresh : (i r : ℕ) → present st r ≡ true → count_to places (queued_at st r i) ≡ 0
  unfolding queued_at
  queues_fresh i r p = count_zero places (queued_at st r i) (λ j l. rw (resource_fresh r p, le-ltb j 0 (omega arith)))

  fresh_is_sound : Sound st
  unfolding fresh_state
  fresh_is_sound = record {
    is_loose = record {
      processors_least = counts.0.0.0.0;
      processors_most = counts.0.0.0.1;
      tasks_least = counts.0.0.1;
      tasks_most = counts.0.1;
      resources_most = counts.1;
      clock_most = omega arith;
      reservation = λ i y. rw (server_fresh i y) (quota_told i y);
      declaration = λ i y. rw (task_fresh i y) (ltb-true _ _ (entry_told i y).1);
      deadline = λ i y. rw (server_fresh i y) (omega arith);
      budget = λ i y. rw (server_fresh i y) (omega arith);
      empty = λ i y. rw (server_fresh i y) (λ e. absurd (omega (arith, (quota_told i y).0)), λ e. absurd (true≢false (sym e)));
      stack = λ i y. rw (task_fresh i y) (omega arith, λ j l m. absurd (omega arith));
      queue = λ r p. rw (resource_fresh r p) (omega arith, λ j l m. absurd (omega arith));
      owner = λ r p. rw (resource_fresh r p) (λ e. absurd (true≢false (sym e)));
      wait = λ t y. rw (task_fresh t y) (λ e. absurd (true≢false (sym e)));
      agree = λ t y. (
        λ r p. stacks_fresh t r y ∙ rw (resource_fresh r p) (sym (ap bit (ne_eqb nobody t (λ e. omega (arith, here_below st t y))))),
        λ r p. queues_fresh t r p ∙ rw (task_fresh t y) (sym (ap bit (ne_eqb nobody r (λ e. omega (arith, present_below st r p))))),
      );
      unqueued = λ r p. rw (resource_fresh r p) (λ n. refl);
      declared = λ t y r p.
          rw (resource_fresh r p, task_fresh t y)
          (⊎_elim (λ e. absurd (omega (arith, here_below st t y))) (λ e. absurd (omega (arith, present_below st r p))));
      opens = λ t y. omega (arith, next_fresh (served st t));
      idles = λ i y. inr (rw (served_fresh i, server_fresh i y, task_fresh i y) (λ e. refl, λ e. refl));
      executor = λ t y. rw (task_fresh t y) (λ e. absurd (true≢false (sym e)));
      serves = λ i y r. absurd (true≢false (sym r ∙ idle_fresh i));
      accounts = λ i y. rw (server_fresh i y, task_fresh i y) (omega arith, omega arith);
    };
    is_seated = omega (arith, count_zero places (running_at st) (λ i l. idle_fresh i));
  }

-- an accepted table's fresh state is sound,
pub fresh_sound : (tb : Table) → fresh_refusal tb ≡ none → sound (fresh_state tb) ≡ true
fresh_sound tb e = (sound_facts (fresh_state tb)).test (fresh_is_sound tb e)

-- a refused one's is not,
pub refused_unsound : sound unusable ≡ false
refused_unsound = reflects_false (sound_facts unusable) (λ h. omega (arith, h.is_loose.processors_least))

-- and the fresh state has every place
held_shaped : (tb : Table) (t : ℕ) → length (fresh_task_at tb t).held ≡ places
unfolding fresh_task_at
held_shaped tb t = split (ltb t tb.tasks) (λ y. rw y) (λ n. rw n)

pub fresh_shaped : (tb : Table) → Shaped (fresh_state tb)
unfolding fresh_state
fresh_shaped tb = record {
  servers = length_set_to places (fresh_server_at tb) (replicate places blank_server);
  tasks = length_set_to places (fresh_task_at tb) (replicate places blank_task);
  resources = refl;
  stacks = λ t l. ap (λ k. length k.held) (set_at_lem places t (fresh_task_at tb) (replicate places blank_task) no_task l l) ∙ held_shaped tb t;
  queues = λ r l. ap (λ x. length x.queue) (get_or-replicate places r blank_resource no_resource l);
}
