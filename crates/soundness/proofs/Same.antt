-- The tests of the code come to the definition of soundness: `passes_sound`. The two ways between `Passed` and `Sound`. Assumes nothing.
use mathlib.Core.Path.{◌≡◌, refl, sym, ap, ◌∙◌}
use mathlib.Core.Bool.{Bool, true, ◌&&◌}
use mathlib.Core.Logic.{inl, inr, ⊎_elim}
use Prim.Native.Nat.{ℕ, ◌<◌}
use native.Mathlib.Omega.{arith}
use lib.Dec.{ltb, eqb}
use lib.ListN.{get_or}
use borrow.Author.Tests.{ltb-true, eqb-true, eq-eqb}
use Rattle.laws.specs.Tests.{bit}
use Rattle.laws.specs.Loops.{all_to}
use Rattle.laws.proofs.Cases.{split, if_yes, tests_same, and_left, and_right, and_both}
use Rattle.laws.proofs.All.{all_at}
use Rattle.laws.proofs.Count.{count_found}
use Rattle.model.specs.declared.State.{State}
use Rattle.model.specs.State.{places, task_at, resource_at, in_set, here, present, declares, awaited, owner_no, placed, executor_number, owner_of, running_at, running_for, owned}
use Rattle.model.specs.Sound.{held_at, queued_at, sound}
use Rattle.model.proofs.Chain.{here_below, present_below, owner_here, owner_past}
use Rattle.model.proofs.Sound.{Each, Wait, Loose, Sound, sound_facts, Agree, Declared, Owned, Executor}
use Rattle.chain.specs.Arrays.{array_of, wanted, wanted_of, runs_for}
use Rattle.chain.specs.Computed.{numbers_of, at_or_nobody}
use Rattle.chain.proofs.Arrays.{owner_is, wanted_is, runs_for_is, number_at_lem}
use Rattle.soundness.specs.Computed.{every_bit, passes}
use Rattle.soundness.proofs.Agree.{has_at, has_below, has_entry, Own, Fits, Once, own_fits_lem, own_once, fits_own, fits_totals}
use Rattle.soundness.proofs.Facts.{Members, awaited_waiting}
use Rattle.soundness.proofs.Passed.{depth, held, waiters, queued, Waits, Passed, passed_facts}

module _ (st : State) where
  -- the owner in force of a resource in use is in use
  owner_held : (r : ℕ) → r < places → owner_of st r < places → here st (owner_of st r) ≡ true
  owner_held r l m = owner_here st r m

  owner_item : (r : ℕ) → r < places → owner_of st r < places → present st r ≡ true
  owner_item r l m = split (present st r) (λ y. y) (λ n. absurd (omega (arith, owner_past st r n)))

  wanted_item : (t : ℕ) → t < places → wanted st t < places → here st t ≡ true
  unfolding wanted
  wanted_item t l m = split (here st t) (λ y. y) (λ n. absurd (omega (arith, rw n at m)))

  -- the owner of a resource in use is t in use exactly when its owner in force is
  owner_same : (r t : ℕ) → present st r ≡ true → here st t ≡ true → eqb (owner_no (resource_at st r).owner) t ≡ eqb (owner_of st r) t
  unfolding owner_of
  owner_same r t p h =
      tests_same
      (eqb (owner_no (resource_at st r).owner) t)
      (eqb (owner_of st r) t)
      (λ e.
      let q : owner_no (resource_at st r).owner ≡ t = eqb-true _ _ e in
      eq-eqb (owner_of st r) t (rw (p, ap (here st) q ∙ h) q))
      (λ e.
      let q : owner_of st r ≡ t = eqb-true _ _ e in
      split
      (present st r && here st (owner_no (resource_at st r).owner))
      (λ y. eq-eqb _ _ (rw y at q))
      (λ n. absurd (omega (arith, here_below st t h, rw n at q))))

  -- and an owner in force is the owner
  owner_in_force : (r : ℕ) → owner_of st r < places → owner_of st r ≡ owner_no (resource_at st r).owner
  unfolding owner_of
  owner_in_force r l =
      split
      (present st r && here st (owner_no (resource_at st r).owner))
      (λ y. rw y)
      (λ n. absurd (omega (arith, rw n at l)))

  wanted_here : (t : ℕ) → here st t ≡ true → wanted st t ≡ awaited (task_at st t).mode
  unfolding wanted
  wanted_here t y = if_yes _ _ _ y

  -- what is waited for is in use, where waits are
  wanted_held : Each st (Wait st) → (t : ℕ) → t < places → wanted st t < places → present st (wanted st t) ≡ true
  wanted_held w t l m =
      let y = wanted_item t l m in
      let e = wanted_here t y in
      rw e (w t y (awaited_waiting (task_at st t).mode (rw e at m)))

-- what passes is sound
module _ (st : State) (h : Passed st) where
  own_stack : (t : ℕ) → here st t ≡ true → Own (owner_of st) (depth st) (held st) t
  own_stack t y =
      let m = (h.task t y).stack in (
        m.0,
        λ j l.
            let e = m.1 j l in
            (sym (owner_is st (held st t j)) ∙ e.0.0, ltb-true _ _ (and_left (ltb (held st t j) places) _ e.0.1), e.1),
      )

  stack_fits_lem : (t : ℕ) → here st t ≡ true → Fits (present st) (depth st) (held st) t
  stack_fits_lem =
      own_fits_lem (here st) (present st) (owner_of st) (depth st) (held st) (here_below st) (present_below st) (owner_held st) (owner_item st) own_stack

  stack_once : (t : ℕ) → here st t ≡ true → Once (present st) (owner_of st) (depth st) (held st) t
  stack_once =
      own_once (here st) (present st) (owner_of st) (depth st) (held st) (here_below st) (present_below st) (owner_held st) (owner_item st) own_stack h.depths

  wait_present : (t : ℕ) → t < places → wanted st t < places → present st (wanted st t) ≡ true
  wait_present = wanted_held st (λ t y w. ((h.task t y).waits w).0)

  own_queue : (r : ℕ) → present st r ≡ true → Own (wanted st) (waiters st) (queued st) r
  own_queue r p =
      let m = (h.resource r p).queue in (
        m.0,
        λ j l.
            let e = m.1 j l in
            let n = number_at_lem (resource_at st r).queue j (omega (arith, m.0)) in (
              sym (wanted_is st (queued st r j)) ∙ ap (at_or_nobody (wanted_of st)) (sym n) ∙ e.0.0,
              rw (← n) (ltb-true _ _ (and_left (ltb (get_or (numbers_of (resource_at st r).queue) j 0) places) _ e.0.1)),
              λ k i q. e.1 k i (number_at_lem (resource_at st r).queue k (omega (arith, m.0)) ∙ q ∙ sym n),
            ),
      )

  queue_fits_lem : (r : ℕ) → present st r ≡ true → Fits (here st) (waiters st) (queued st) r
  queue_fits_lem =
      own_fits_lem (present st) (here st) (wanted st) (waiters st) (queued st) (present_below st) (here_below st) wait_present (wanted_item st) own_queue

  queue_once : (r : ℕ) → present st r ≡ true → Once (here st) (wanted st) (waiters st) (queued st) r
  queue_once =
      own_once (present st) (here st) (wanted st) (waiters st) (queued st) (present_below st) (here_below st) wait_present (wanted_item st) own_queue h.lengths

  agrees : (t : ℕ) → here st t ≡ true → Agree st t
  unfolding held_at queued_at
  agrees t y = (
    λ r p. stack_once t y r p ∙ ap bit (sym (owner_same st r t p y)),
    λ r p. queue_once r p t y ∙ ap (λ w. bit (eqb w r)) (wanted_here st t y),
  )

  owner_here_too : (r : ℕ) → present st r ≡ true → Owned st r
  owner_here_too r p o =
      let l = (h.resource r p).owner o in
      rw (← (owner_in_force st r l)) (owner_here st r l)

  -- an owned resource stands in its owner's stack, whose entries are declared
  held_declared : (t r : ℕ) → here st t ≡ true → present st r ≡ true → owner_no (resource_at st r).owner ≡ t → declares st t r ≡ true
  unfolding declares
  held_declared t r y p e =
      let found =
      count_found
      places
      (has_at (depth st) (held st) t r)
      (omega (arith, stack_once t y r p, ap bit (sym (owner_same st r t p y) ∙ eq-eqb _ _ e))) in
      let entry = has_entry (depth st) (held st) t r found.0 found.2 in
      ap (in_set (task_at st t).declared) (sym entry) ∙ ((h.task t y).stack.1 found.0 (has_below (depth st) (held st) t r found.0 found.2)).0.1

  all_declared_lem : (t : ℕ) → here st t ≡ true → Declared st t
  all_declared_lem t y r p =
      ⊎_elim
      (held_declared t r y p)
      (λ e.
      ap (declares st t) (sym e) ∙ ((h.task t y).waits (awaited_waiting (task_at st t).mode (omega (arith, present_below st r p)))).1)

  executes : (t : ℕ) → here st t ≡ true → Executor st t
  unfolding running_for runs_for
  executes t y x =
      let s = executor_number (task_at st t).runs in
      let e : runs_for st s ≡ t = sym (runs_for_is st s) ∙ (h.server t y).executor x in
      split
      (running_at st s)
      (λ r. and_both _ _ r (eq-eqb _ _ (rw r at e)))
      (λ n. absurd (omega (arith, here_below st t y, rw n at e)))

  passed_sound : Sound st
  unfolding running_at
  passed_sound = record {
    is_loose = record {
      processors_least = h.sizes.0.0.0.0.0;
      processors_most = h.sizes.0.0.0.0.1;
      tasks_least = h.sizes.0.0.0.1;
      tasks_most = h.sizes.0.0.1;
      resources_most = h.sizes.0.1;
      clock_most = h.sizes.1;
      reservation = λ i y. (h.server i y).reservation;
      declaration = λ i y. (h.task i y).declaration;
      deadline = λ i y. (h.server i y).deadline;
      budget = λ i y. (h.server i y).budget;
      empty = λ i y. (h.server i y).empty;
      stack = stack_fits_lem;
      queue = queue_fits_lem;
      owner = owner_here_too;
      wait = λ t y w. ((h.task t y).waits w).0;
      agree = agrees;
      unqueued = λ r p. (h.resource r p).unqueued;
      declared = all_declared_lem;
      opens = λ i y. (h.server i y).opens;
      idles = λ i y. (h.server i y).idles;
      executor = executes;
      serves = λ i y r. (h.server i y).serves (and_right (here st i) _ r);
      accounts = λ i y. ((h.task i y).executed, (h.server i y).accounts);
    };
    is_seated = h.seats;
  }

-- and what is sound passes
module _ (st : State) (s : Sound st) where
  abbrev facts : Loose st
  facts = s.is_loose

  once_stack : (t : ℕ) → here st t ≡ true → Once (present st) (owner_of st) (depth st) (held st) t
  unfolding held_at
  once_stack t y r p = (facts.agree t y).0 r p ∙ ap bit (owner_same st r t p y)

  once_queue : (r : ℕ) → present st r ≡ true → Once (here st) (wanted st) (waiters st) (queued st) r
  unfolding queued_at
  once_queue r p t y = (facts.agree t y).1 r p ∙ ap (λ w. bit (eqb w r)) (sym (wanted_here st t y))

  waits : (t : ℕ) → here st t ≡ true → Waits st t
  waits t y w = let p = facts.wait t y w in (p, facts.declared t y _ p (inr refl))

  waits_present : (t : ℕ) → t < places → wanted st t < places → present st (wanted st t) ≡ true
  waits_present = wanted_held st facts.wait

  stack_own : (t : ℕ) → here st t ≡ true → Own (owner_of st) (depth st) (held st) t
  stack_own =
      fits_own (here st) (present st) (owner_of st) (depth st) (held st) (here_below st) (present_below st) (owner_held st) (owner_item st) facts.stack once_stack

  queue_own : (r : ℕ) → present st r ≡ true → Own (wanted st) (waiters st) (queued st) r
  queue_own =
      fits_own (present st) (here st) (wanted st) (waiters st) (queued st) (present_below st) (here_below st) waits_present (wanted_item st) facts.queue once_queue

  stack_members : (t : ℕ) → here st t ≡ true → Members (task_at st t).held (depth st t) (task_at st t).declared (array_of (owner_of st)) t
  unfolding declares
  stack_members t y =
      let o = stack_own t y in (
        o.0,
        λ j l.
            let e = o.1 j l in
            let p = (facts.stack t y).1 j (omega (arith, o.0)) l in (
              (
                owner_is st (held st t j) ∙ e.0,
                facts.declared t y (held st t j) p (inl (eqb-true _ _ (owner_same st (held st t j) t p y ∙ eq-eqb _ _ e.0))),
              ),
              e.2,
            ),
      )

  every_bit_lem : (r : ℕ) → r < places → in_set every_bit r ≡ true
  unfolding all_to
  every_bit_lem r l = all_at (in_set every_bit) places r l refl

  queue_members : (r : ℕ) → present st r ≡ true → Members (numbers_of (resource_at st r).queue) (waiters st r) every_bit (wanted_of st) r
  queue_members r p =
      let o = queue_own r p in (
        o.0,
        λ j l.
            let e = o.1 j l in
            let n = number_at_lem (resource_at st r).queue j (omega (arith, o.0)) in (
              (ap (at_or_nobody (wanted_of st)) n ∙ wanted_is st (queued st r j) ∙ e.0, ap (in_set every_bit) n ∙ every_bit_lem _ e.1),
              λ k i q. e.2 k i (sym (number_at_lem (resource_at st r).queue k (omega (arith, o.0))) ∙ q ∙ n),
            ),
      )

  owner_used : (r : ℕ) → present st r ≡ true → owned (resource_at st r).owner ≡ true → owner_of st r < places
  owner_used r p o =
      let y = facts.owner r p o in
      let n = owner_no (resource_at st r).owner in
      let e : owner_of st r ≡ n = eqb-true (owner_of st r) n (sym (owner_same st r n p y) ∙ eq-eqb n n refl) in
      rw e (here_below st n y)

  executor_runs : (t : ℕ) → here st t ≡ true → placed (task_at st t).runs ≡ true → at_or_nobody (array_of (runs_for st)) (executor_number (task_at st t).runs) ≡ t
  unfolding running_for runs_for
  executor_runs t y x =
      let n = executor_number (task_at st t).runs in
      let f = facts.executor t y x in
      runs_for_is st n ∙ if_yes _ _ _ (and_left (running_at st n) _ f) ∙ eqb-true _ _ (and_right (running_at st n) _ f)

  sound_passed : Passed st
  unfolding running_at
  sound_passed = record {
    sizes = (((((facts.processors_least, facts.processors_most), facts.tasks_least), facts.tasks_most), facts.resources_most), facts.clock_most);
    task = λ t y. record {
      executed = (facts.accounts t y).0;
      declaration = facts.declaration t y;
      waits = waits t y;
      stack = stack_members t y;
    };
    depths = fits_totals (here st) (present st) (owner_of st) (depth st) (held st) (here_below st) (present_below st) (owner_held st) (owner_item st) facts.stack once_stack;
    resource = λ r p. record { owner = owner_used r p; unqueued = facts.unqueued r p; queue = queue_members r p };
    lengths = fits_totals (present st) (here st) (wanted st) (waiters st) (queued st) (present_below st) (here_below st) waits_present (wanted_item st) facts.queue once_queue;
    seats = s.is_seated;
    server = λ i y. record {
      reservation = facts.reservation i y;
      deadline = facts.deadline i y;
      budget = facts.budget i y;
      empty = facts.empty i y;
      accounts = (facts.accounts i y).1;
      opens = facts.opens i y;
      serves = λ r. facts.serves i y (and_both _ _ y r);
      idles = facts.idles i y;
      executor = executor_runs i y;
    };
  }

-- the code's tests are the definition
pub passes_sound : (st : State) → passes st ≡ sound st
passes_sound st =
    tests_same
    (passes st)
    (sound st)
    (λ e. (sound_facts st).test (passed_sound st ((passed_facts st).holds e)))
    (λ e. (passed_facts st).test (sound_passed st ((sound_facts st).holds e)))

pub sound_by : (st : State) (r : Bool) → r ≡ passes st → r ≡ sound st
sound_by st r e = e ∙ passes_sound st
