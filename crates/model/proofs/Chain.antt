-- Laws of chains: links stay among the numbers in use, the chain end is where the links lead, and the sixteen tasks of its fuel never cut it:
-- that no chain closes is decided by the test, and there the chain end is that of rule 3.2 (`end_is`). Assumes nothing.
use Rattle.std.specs.Prelude.{if◌then◌else◌}
use mathlib.Core.Path.{◌≡◌, refl, sym, ◌∙◌}
use mathlib.Core.Bool.{true, false, ◌&&◌}
use Prim.Native.Nat.{ℕ, zero, suc, ◌<◌, ◌≤◌}
use native.Mathlib.Omega.{arith}
use lib.Dec.{ltb}
use borrow.Author.Tests.{ltb-true, ltb-false, le-ltb}
use Rattle.laws.specs.Links.{hop, walk, Leads}
use Rattle.laws.proofs.Cases.{split, and_left, and_right}
use Rattle.laws.proofs.Pigeonhole.{walk_ended, walk_linked, walk_more, ended_open, closed_or_ended}
use Rattle.model.specs.declared.State.{State}
use Rattle.model.specs.State.{places, nobody, task_at, resource_at, awaited, owner_no, here, present, owner_of, next, chain_end, served}

pub here_below : (st : State) (i : ℕ) → here st i ≡ true → i < places
unfolding here
here_below st i h = ltb-true i places (and_left (ltb i places) _ h)

pub here_tasks : (st : State) (i : ℕ) → here st i ≡ true → i < st.tasks
unfolding here
here_tasks st i h = ltb-true i st.tasks (and_right (ltb i places) _ h)

pub present_below : (st : State) (r : ℕ) → present st r ≡ true → r < places
unfolding present
present_below st r h = ltb-true r places (and_left (ltb r places) _ h)

-- a resource that is not in use has no owner, a task that is not in use waits for nobody
pub owner_past : (st : State) (r : ℕ) → present st r ≡ false → owner_of st r ≡ nobody
unfolding owner_of
owner_past st r e = rw e

pub next_past : (st : State) (t : ℕ) → here st t ≡ false → next st t ≡ nobody
unfolding next
next_past st t e = rw e

pub present_past : (st : State) (r : ℕ) → places ≤ r → present st r ≡ false
unfolding present
present_past st r l = rw (le-ltb r places l)

pub here_past : (st : State) (i : ℕ) → places ≤ i → here st i ≡ false
unfolding here
here_past st i l = rw (le-ltb i places l)

-- an owner is a number in use, or nobody
pub owner_here : (st : State) (r : ℕ) → owner_of st r < places → here st (owner_of st r) ≡ true
unfolding owner_of
owner_here st r l =
    split
    (present st r && here st (owner_no (resource_at st r).owner))
    (λ y. rw y (and_right (present st r) _ y))
    (λ n. absurd (omega (arith, rw n at l)))

-- a link leads to a number in use, from a number in use
pub next_here : (st : State) (t : ℕ) → next st t < places → here st (next st t) ≡ true
unfolding next
next_here st t l =
    split
    (here st t)
    (λ y. rw y (owner_here st (awaited (task_at st t).mode) (rw y at l)))
    (λ n. absurd (omega (arith, rw n at l)))

pub linked_here : (st : State) (t : ℕ) → next st t < places → here st t ≡ true
unfolding next
linked_here st t l = split (here st t) (λ y. y) (λ n. absurd (omega (arith, rw n at l)))

-- the chain end is where the links lead
pub end_walk : (left : ℕ) (st : State) (t : ℕ) → chain_end left st t ≡ walk places (next st) left t
unfolding chain_end walk hop
end_walk zero st t = refl
end_walk (suc left) st t =
    split
    (ltb (next st t) places)
    (λ y. rw y (end_walk left st (next st t)))
    (λ n. rw n (sym (walk_ended places (next st) left t (ltb-false _ _ n))))

-- the chain of t comes to an end
abbrev pub Open : State → ℕ → Type 0
Open st t = places ≤ next st (served st t)

pub served_walk : (st : State) (t : ℕ) → served st t ≡ walk places (next st) places t
unfolding served
served_walk st t = end_walk places st t

-- more tasks left change nothing: the fuel does not cut a chain that comes to an end
pub end_more : (st : State) (t left : ℕ) → Open st t → places ≤ left → chain_end left st t ≡ served st t
end_more st t left o l =
    end_walk left st t ∙ walk_more places (next st) places left t (rw (← (served_walk st t)) o) l ∙ sym (served_walk st t)

-- rule 3.2: a task without a link is its own chain end,
pub end_itself : (st : State) (t : ℕ) → places ≤ next st t → served st t ≡ t
end_itself st t e = served_walk st t ∙ walk_ended places (next st) places t e

-- and any other has that of the task it is linked to
pub end_owner : (st : State) (t : ℕ) → Open st t → next st t < places → served st t ≡ served st (next st t)
unfolding walk
end_owner st t o l =
    let w : served st t ≡ walk places (next st) 15 (next st t) = served_walk st t ∙ walk_linked places (next st) 15 t l in
    w
    ∙ sym (walk_more places (next st) 15 places (next st t) (rw w at o) (omega arith))
    ∙ sym (served_walk st (next st t))

pub end_is : (st : State) (t : ℕ) → Open st t → served st t ≡ (if ltb (next st t) places then served st (next st t) else t)
end_is st t o =
    split
    (ltb (next st t) places)
    (λ y. rw y (end_owner st t o (ltb-true _ _ y)))
    (λ n. rw n (end_itself st t (ltb-false _ _ n)))

-- what each link keeps, the chain end keeps
module _ (P : ℕ → Type 0) (a : State) (keeps : (t : ℕ) → P t → next a t < places → P (next a t)) where
  end_keeps : (left t : ℕ) → P t → P (chain_end left a t)
  unfolding chain_end
  end_keeps zero t p = p
  end_keeps (suc left) t p =
      split (ltb (next a t) places) (λ y. rw y (end_keeps left (next a t) (keeps t p (ltb-true _ _ y)))) (λ n. rw n p)

  pub served_keeps : (t : ℕ) → P t → P (served a t)
  unfolding served
  served_keeps t p = end_keeps places t p

  -- and the same links have the same ends
  module _ (b : State) (same : (t : ℕ) → P t → next a t ≡ next b t) where
    same_end : (left t : ℕ) → P t → chain_end left a t ≡ chain_end left b t
    unfolding chain_end
    same_end zero t p = refl
    same_end (suc left) t p =
        rw (← (same t p))
        (split (ltb (next a t) places) (λ y. rw y (same_end left (next a t) (keeps t p (ltb-true _ _ y)))) (λ n. rw n refl))

    pub same_among : (t : ℕ) → P t → served a t ≡ served b t
    unfolding served
    same_among t p = same_end places t p

pub same_served : (a b : State) → ((t : ℕ) → next a t ≡ next b t) → (t : ℕ) → served a t ≡ served b t
same_served a b same t = same_among (λ x. Unit {0}) a (λ x p l. p) b (λ x p. same x) t tt

-- the end of a number below sixteen is below sixteen, and of a number in use is in use
pub served_below : (st : State) (t : ℕ) → t < places → served st t < places
served_below st = served_keeps (λ x. x < places) st (λ x p l. l)

pub served_here : (st : State) (t : ℕ) → here st t ≡ true → here st (served st t) ≡ true
served_here st = served_keeps (λ x. here st x ≡ true) st (λ x p l. next_here st x l)

-- rule 4.12, no chain closes: no task is reached again from itself in one link or more
abbrev pub Unclosed : State → Type 0
Unclosed st = (t j : ℕ) → Leads places (next st) (suc j) t t → ⊥

-- the test by fuel decides it
pub unclosed_open : (st : State) → Unclosed st → (t : ℕ) → t < places → Open st t
unclosed_open st u t l = rw (served_walk st t) (closed_or_ended places (next st) (λ y k j. u y j) t l)

pub open_unclosed : (st : State) → ((t : ℕ) → here st t ≡ true → Open st t) → Unclosed st
unfolding Leads
open_unclosed st o t j d =
    ended_open places (next st) places t (rw (← (served_walk st t)) (o t (linked_here st t d.0))) j d
