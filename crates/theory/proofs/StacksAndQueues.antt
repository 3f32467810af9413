-- A change of one task and one resource (`touched`): what is read after it, that stacks and queues which it cannot touch stay, and the moves that do
-- touch them: a resource taken or given up, a task that enters a queue (that the first leaves it is in Passing.antt). A stack and a queue are one
-- thing, items that stand once in the box that they point to, so each move is one of two laws (laws/proofs/Standing.antt, with model/proofs/Boxes.antt
-- for the one box that changes). Assumes nothing.
use Rattle.std.specs.Prelude.{if◌then◌else◌}
use Rattle.theory.proofs.Kit.{◌≡◌, refl, sym, ap, ◌∙◌, true, false, ℕ, ◌+◌, ◌<◌, arith, eqb, get_or, get_or-set_same, get_or-set_other, eqb-true, eqb-false}
use Rattle.laws.specs.Tests.{bit}
use Rattle.laws.proofs.Cases.{split}
use Rattle.laws.proofs.Lists.{set_keeps}
use Rattle.laws.proofs.Standing.{same_standing, put_standing, taken_standing}
use Rattle.theory.proofs.Declared.{TaskNo, Waiting, None, Some, Task, Resource, State}
use Rattle.model.specs.State.{places, nobody, no_task, no_resource, task_at, resource_at, in_set, here, present, declares, waiting, awaited, owned, owner_no}
use Rattle.model.specs.Shape.{Shaped}
use Rattle.model.specs.Events.{with_task, with_resource, with_mode, with_owner, pushed, popped, enqueued, granted, freed, joined}
use Rattle.model.specs.Step.{top_of}
use Rattle.model.proofs.Chain.{here_below, present_below}
use Rattle.model.proofs.Sound.{Each, Declaration}
use Rattle.model.proofs.Room.{Stacks, Queues}
use Rattle.model.proofs.Boxes.{held_in, queued_in, holds, push_holds, push_filled, pop_holds, pop_filled, enter_lines, enter_filled}
use Rattle.model.proofs.Variants.{unowned_no}

abbrev pub touched : State → ℕ → ℕ → Task → Resource → State
touched st t r k x = with_task t k (with_resource r x st)

module _ (st : State) (shaped : Shaped st) (t r : ℕ) (used : here st t ≡ true) (known : present st r ≡ true) where
  module _ (k : Task) (x : Resource) where
    abbrev after : State
    after = touched st t r k x

    pub task_self : task_at after t ≡ k
    task_self = get_or-set_same st.task t k no_task (omega (arith, shaped.tasks, here_below st t used))

    pub task_other : (y : ℕ) → (y ≡ t → ⊥) → task_at after y ≡ task_at st y
    task_other y n = get_or-set_other st.task t y k no_task n

    pub resource_self : resource_at after r ≡ x
    resource_self = get_or-set_same st.resource r x no_resource (omega (arith, shaped.resources, present_below st r known))

    pub resource_other : (q : ℕ) → (q ≡ r → ⊥) → resource_at after q ≡ resource_at st q
    resource_other q n = get_or-set_other st.resource r q x no_resource n

    -- what is read of any entry
    pub touched_shows : {A : Type 0} (f : Task → A) (y : ℕ) → f (task_at after y) ≡ (if eqb y t then f k else f (task_at st y))
    touched_shows f y = split (eqb y t) (λ e. rw (e, eqb-true y t e) (ap f task_self)) (λ n. rw n (ap f (task_other y (eqb-false y t n))))

    pub touched_reads : {A : Type 0} (f : Resource → A) (q : ℕ) → f (resource_at after q) ≡ (if eqb q r then f x else f (resource_at st q))
    touched_reads f q = split (eqb q r) (λ e. rw (e, eqb-true q r e) (ap f resource_self)) (λ n. rw n (ap f (resource_other q (eqb-false q r n))))

    -- what the change leaves of the two, it leaves of all
    pub task_field : {A : Type 0} (f : Task → A) → f k ≡ f (task_at st t) → (y : ℕ) → f (task_at after y) ≡ f (task_at st y)
    task_field f e y = set_keeps (λ a b. f a ≡ f b) no_task (λ a. refl) st.task t y k e

    pub resource_field : {A : Type 0} (f : Resource → A) → f x ≡ f (resource_at st r) → (q : ℕ) → f (resource_at after q) ≡ f (resource_at st q)
    resource_field f e q = set_keeps (λ a b. f a ≡ f b) no_resource (λ a. refl) st.resource r q x e

    module _ (may : k.declared ≡ (task_at st t).declared) where
      pub touched_declares : (y q : ℕ) → declares after y q ≡ declares st y q
      unfolding declares
      touched_declares y q = ap (λ d. in_set d q) (task_field (λ z. z.declared) may y)

      pub touched_declaration : Each st (Declaration st) → Each after (Declaration after)
      unfolding here
      touched_declaration d i u = rw (task_field (λ z. z.declared) may i) (d i u)

      -- stacks see what tasks hold, and owners; queues see what tasks want
      pub touched_stacks
          : k.depth ≡ (task_at st t).depth → k.held ≡ (task_at st t).held → x.owner ≡ (resource_at st r).owner → Stacks st → Stacks after
      unfolding here present
      touched_stacks deep has owner =
          same_standing (λ q. refl) (λ y. refl)
          (λ y. sym (task_field (λ z. z.depth) deep y)) (λ y j. ap (λ h. get_or h j 0) (sym (task_field (λ z. z.held) has y)))
          (λ q. ap owned (sym (resource_field (λ z. z.owner) owner q))) (λ q. ap owner_no (sym (resource_field (λ z. z.owner) owner q)))
          (λ y q. sym (touched_declares y q))

      pub touched_queues
          : k.mode ≡ (task_at st t).mode → x.waiting ≡ (resource_at st r).waiting → x.queue ≡ (resource_at st r).queue → Queues st → Queues after
      unfolding here present
      touched_queues mode many line =
          same_standing (λ y. refl) (λ q. refl)
          (λ q. sym (resource_field (λ z. z.waiting) many q))
          (λ q j. ap (λ l. (get_or {A = TaskNo} l j (record { 0 = 0 })).0) (sym (resource_field (λ z. z.queue) line q)))
          (λ y. ap waiting (sym (task_field (λ z. z.mode) mode y))) (λ y. ap awaited (sym (task_field (λ z. z.mode) mode y)))
          (λ q y. sym (touched_declares y q))

  abbrev k : Task
  k = task_at st t

  abbrev x : Resource
  x = resource_at st r

  -- the stack of t, and who owns r
  module _ (l : Stacks st) where
    -- t takes r, which nobody has
    pub take_stacks : owned x.owner ≡ false → declares st t r ≡ true → k.depth < places → Stacks (granted st t r)
    unfolding granted here present
    take_stacks free may room =
        let new = pushed r k in
        let by = with_owner (Some (record { 0 = t })) x in
        let long = shaped.stacks t (here_below st t used) in
        put_standing l (here_below st)
        r t
        (rw (task_self new by) (push_filled k long r room (present st) (l.filled t used) known))
        (λ y n. (ap (λ z. z.depth) (task_other new by y n), λ j. ap (λ z. held_in z j) (task_other new by y n)))
        (λ q n. ap (λ z. owned z.owner) (resource_other new by q n))
        (touched_declares new by refl)
        used (touched_reads new by (λ z. owner_no z.owner))
        (unowned_no x.owner free) may
        (λ q. rw (task_self new by) (push_holds k long r room q))

    -- t gives up r, the top of its stack
    pub give_stacks : owner_no x.owner ≡ t → top_of st t ≡ r → 0 < k.depth → Stacks (freed st t r)
    unfolding freed here present top_of
    give_stacks owns top some =
        let new = popped k in
        let by = with_owner None x in
        let fits = (l.filled t used).0 in
        taken_standing l (here_below st)
        r t
        (rw (task_self new by) (pop_filled k some fits (present st) (l.filled t used)))
        (λ y n. (ap (λ z. z.depth) (task_other new by y n), λ j. ap (λ z. held_in z j) (task_other new by y n)))
        (λ q n. ap (λ z. owned z.owner) (resource_other new by q n))
        (touched_declares new by refl)
        used (touched_reads new by (λ z. owner_no z.owner))
        owns (ap (λ z. owned z.owner) (resource_self new by))
        (λ q. rw (task_self new by) (pop_holds k some fits q ∙ ap (λ z. holds new q + bit (eqb z q)) top))

  -- the queue of r, and what t waits for
  module _ (l : Queues st) where
    -- t, which waits for nothing, enters
    pub enter_queues : awaited k.mode ≡ nobody → declares st t r ≡ true → x.waiting < places → Queues (joined st t r)
    unfolding joined here present
    enter_queues calm may room =
        let new = with_mode (Waiting r) k in
        let by = enqueued t x in
        let wide = shaped.queues r (present_below st r known) in
        put_standing l (present_below st)
        t r
        (rw (resource_self new by) (enter_filled x wide t room (here st) (l.filled r known) used))
        (λ q n. (ap (λ z. z.waiting) (resource_other new by q n), λ j. ap (λ z. queued_in z j) (resource_other new by q n)))
        (λ y n. ap (λ z. waiting z.mode) (task_other new by y n))
        (λ q y. touched_declares new by refl y q)
        known (touched_shows new by (λ z. awaited z.mode))
        calm may
        (λ y. rw (resource_self new by) (enter_lines x wide t room y))
