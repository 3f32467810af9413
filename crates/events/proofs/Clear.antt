-- What soundness and the tests that passed give to the changes: numbers in use, room on a stack or in a queue, something to give up, sums that fit.
-- Assumes nothing.
use Rattle.std.specs.Prelude.{None, Some}
use mathlib.Core.Path.{◌≡◌, refl, sym, ◌∙◌}
use mathlib.Core.Bool.{true}
use Prim.Native.Nat.{ℕ, ◌+◌, ◌<◌, ◌≤◌}
use native.Mathlib.Omega.{arith}
use borrow.Author.Tests.{not-false}
use Rattle.laws.proofs.Cases.{none_fails, none_later}
use Rattle.model.specs.State.{Owner, server_at, task_at, resource_at, here, owned, owner_no}
use Rattle.model.specs.declared.TaskNo.{TaskNo}
use Rattle.model.specs.declared.State.{State}
use Rattle.model.specs.declared.Event.{Event}
use Rattle.model.specs.declared.Event.TheVariants.{Wake, Suspend, Elapse, Lock, Unlock}
use Rattle.model.specs.Sound.{each, sound}
use Rattle.model.specs.Events.{first_waiter}
use Rattle.model.specs.Step.{affords}
use Rattle.model.proofs.Chain.{here_below, present_below}
use Rattle.model.proofs.Sound.{Loose, sound_facts}
use Rattle.model.proofs.Grounds.{Grounds, grounds, unrefused_free}
use Rattle.model.proofs.Room.{stack_room, queue_room, stack_held, first_here, first_waits, executing_waits}
use Rattle.events.specs.declared.turning.Turn.{Turn}
use Rattle.events.specs.declared.turning.Turn.TheVariants.{Wakes, Rests}
use Rattle.events.specs.Changes.{Clear}
use Rattle.events.specs.Computed.{turn_of, Timely}

pub clear_grounds : (st : State) (e : Event) → Clear st e → Grounds st e
clear_grounds st e c = grounds st e (unrefused_free st e c.unrefused)

pub clear_loose : (st : State) (e : Event) → Clear st e → Loose st
clear_loose st e c = ((sound_facts st).holds c.is_sound).is_loose

-- a deadline of a server in use fits 32 bits
pub deadline_fits_lem : (st : State) → sound st ≡ true → (i : ℕ) → here st i ≡ true → st.clock + (server_at st i).period < 4294967296
deadline_fits_lem st s i h =
    let loose = ((sound_facts st).holds s).is_loose in
    omega (arith, loose.clock_most, (loose.reservation i h).2)

-- the task of a wake or a suspend is in use; servers wake with deadlines that fit
pub turn_here : (turn : Turn) (st : State) (t : TaskNo) → Clear st (turn_of turn t) → here st t.0 ≡ true
turn_here Wakes st t c = (clear_grounds st (Wake t) c).0
turn_here Rests st t c = (clear_grounds st (Suspend t) c).0

pub turn_timely : (turn : Turn) (st : State) → sound st ≡ true → (i : ℕ) → here st i ≡ true → Timely turn (st.clock + (server_at st i).period)
turn_timely Wakes st s i h = deadline_fits_lem st s i h
turn_timely Rests st s i h = tt

-- every Running server lasts
pub elapse_affords : (st : State) (n : ℕ) → Clear st (Elapse n) → each st (affords st n) ≡ true
elapse_affords st n c = not-false _ (none_fails _ _ _ (none_later _ _ _ (none_later _ _ _ c.unrefused)))

-- a number that has a place is an owner's
pub number_owned : (o : Owner) → owner_no o < 16 → owned o ≡ true
number_owned None l = absurd (omega arith)
number_owned (Some t) l = refl

module _ (st : State) (t : TaskNo) (r : ℕ) (clear : Clear st (Lock t r)) where
  abbrev lock_facts : Grounds st (Lock t r)
  lock_facts = clear_grounds st (Lock t r) clear

  pub lock_below : t.0 < 16
  lock_below = here_below st t.0 lock_facts.0

  pub lock_present : r < 16
  lock_present = present_below st r lock_facts.1

  pub lock_room : (task_at st t.0).depth < 16
  lock_room = stack_room st (clear_loose st (Lock t r) clear) t.0 r lock_facts.0 lock_facts.1 lock_facts.4

  pub lock_queue : owned (resource_at st r).owner ≡ true → (resource_at st r).waiting < 16
  lock_queue o =
      let s = clear_loose st (Lock t r) clear in
      queue_room st s t.0 r lock_facts.0 lock_facts.1 (executing_waits st s t.0 lock_facts.3 r lock_facts.1 o)

module _ (st : State) (t : TaskNo) (r : ℕ) (clear : Clear st (Unlock t r)) where
  abbrev unlock_facts : Grounds st (Unlock t r)
  unlock_facts = clear_grounds st (Unlock t r) clear

  abbrev unlock_loose : Loose st
  unlock_loose = clear_loose st (Unlock t r) clear

  pub unlock_below : t.0 < 16
  unlock_below = here_below st t.0 unlock_facts.0

  pub unlock_present : r < 16
  unlock_present = present_below st r unlock_facts.1

  pub unlock_stack : (0 < (task_at st t.0).depth) × ((task_at st t.0).depth ≤ 16)
  unlock_stack =
      (stack_held st unlock_loose t.0 r unlock_facts.0 unlock_facts.1 unlock_facts.3, (unlock_loose.stack t.0 unlock_facts.0).0)

  module _ (some : 0 < (resource_at st r).waiting) where
    pub unlock_queue : (0 < (resource_at st r).waiting) × ((resource_at st r).waiting ≤ 16)
    unlock_queue = (some, (unlock_loose.queue r unlock_facts.1).0)

    pub heir_here : here st (first_waiter (resource_at st r)) ≡ true
    heir_here = first_here st unlock_loose r unlock_facts.1 some

    pub heir_below : first_waiter (resource_at st r) < 16
    heir_below = here_below st _ heir_here

    -- the first waiter is not the owner, and has room
    pub heir_room : (task_at st (first_waiter (resource_at st r))).depth < 16
    heir_room =
        stack_room st unlock_loose _ r heir_here unlock_facts.1
        (λ e.
        let owner : first_waiter (resource_at st r) ≡ t.0 = sym e ∙ unlock_facts.3 in
        executing_waits st unlock_loose t.0 unlock_facts.2 r unlock_facts.1
        (number_owned (resource_at st r).owner (rw unlock_facts.3 unlock_below))
        (rw owner at (first_waits st unlock_loose r unlock_facts.1 some)))
