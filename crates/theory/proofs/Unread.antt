-- What lies past the counts is not read: two states that agree on what is in use are sound together, get one answer to an event and agree after it.
-- What is in use is a group, for any labels that give it the number 0: all that soundness asks, each test, the change, rule H and the answer read that
-- group alone, and most of this is what Locality.antt and Order.antt say of a group. Only the tests and the answer that speak of all servers
-- (no processor free, an elapse) are compared here. Assumes nothing.
use Rattle.std.specs.Prelude.{if◌then◌else◌}
use Rattle.theory.proofs.Kit.{◌≡◌, refl, sym, ap, ap₂, ◌∙◌, Bool, true, false, not, ◌||◌, List, ◌∷◌, ℕ, ◌+◌, arith, ltb, eqb, eq-eqb}
use Rattle.laws.specs.Tests.{◌when◌or◌, accepted, first_of, without}
use Rattle.laws.proofs.Cases.{split, holds_fails, unheld_fails, if_yes, first_yes}
use Rattle.laws.proofs.Count.{count_ext}
use Rattle.laws.proofs.All.{all_ext}
use Rattle.reordering.specs.Order.{group, sees}
use Rattle.theory.proofs.Declared.{State, Event, Wake, Suspend, Dispatch, Preempt, Elapse, Recharge, Lock, Unlock}
use Rattle.model.specs.State.{places, server_at, task_at, resource_at, here, present, declares, served, running_at, running_for}
use Rattle.model.specs.Sound.{clock_limit, each, if_here, held_at, queued_at, sound}
use Rattle.model.specs.Shape.{Shaped}
use Rattle.model.specs.Events.{runs_out, number_of}
use Rattle.model.specs.Step.{crowded, affords, tests, stepped}
use Rattle.model.proofs.Sound.{Loose, sound_facts}
use Rattle.model.proofs.Grounds.{Grounds, grounds, unrefused_free}
use Rattle.model.proofs.Stalled.{admitted, admitted_here}
use Rattle.theory.proofs.Outcomes.{stepped_has, stepped_sound}
use Rattle.theory.proofs.Agreement.{Labels, Agree, Homed, agree_sym, here_same, present_same, next_same, served_same, served_in, for_same, Good}
use Rattle.theory.proofs.Locality.{kind_by}
use Rattle.theory.proofs.Order.{verdict, verdict_same, outcome_same}
use Rattle.theory.proofs.Steps.{after_here, after_present}

-- what is in use has the label 0
pub record Covers (l : Labels) (st : State) : Type 0 where
  pub task : (i : ℕ) → here st i ≡ true → l.of_task i ≡ 0
  pub resource : (r : ℕ) → present st r ≡ true → l.of_resource r ≡ 0

covered_home : (l : Labels) (st : State) → Covers l st → Homed l st
covered_home l st c = record {
  waits = λ t h p. c.resource _ p ∙ sym (c.task t h);
  owns = λ r p h. c.resource r p ∙ sym (c.task _ h);
}

covered_good : (l : Labels) (st : State) → Covers l st → Shaped st → Loose st → Good l st
covered_good l st c shaped facts = record { loose = facts; shaped = shaped; fits = λ t r h p d. c.resource r p ∙ sym (c.task t h) }

module _ (l : Labels) (s u : State) (c : Covers l s) (a : Agree l 0 s u) where
  hs : (i : ℕ) → here s i ≡ here u i
  hs = here_same l 0 s u a

  ps : (r : ℕ) → present s r ≡ present u r
  ps = present_same l 0 s u a

  covers_both : Covers l u
  covers_both = record { task = λ i h. c.task i (hs i ∙ h); resource = λ r p. c.resource r (ps r ∙ p) }

  server : (i : ℕ) → here u i ≡ true → server_at s i ≡ server_at u i
  server i h = a.server_same.entry i (covers_both.task i h)

  task : (i : ℕ) → here u i ≡ true → task_at s i ≡ task_at u i
  task i h = a.task_same.entry i (covers_both.task i h)

  resource : (r : ℕ) → present u r ≡ true → resource_at s r ≡ resource_at u r
  resource r p = a.resource_same.entry r (covers_both.resource r p)

  home : Homed l s
  home = covered_home l s c

  ends : (i : ℕ) → here u i ≡ true → served s i ≡ served u i
  ends i h = served_same l 0 s u a home i (covers_both.task i h)

  end_task : (i : ℕ) → here u i ≡ true → task_at s (served s i) ≡ task_at u (served s i)
  end_task i h = a.task_same.entry (served s i) (served_in l 0 s u a home i (covers_both.task i h))

  pub runs : (x : ℕ) → running_at s x ≡ running_at u x
  unfolding running_at
  runs x = split (here u x) (λ h. rw (hs x, server x h)) (λ n. rw (hs x, n))

  serves : (t x : ℕ) → here u t ≡ true → running_for s t x ≡ running_for u t x
  serves t x h = for_same l 0 s u a home (covered_home l u covers_both) t (covers_both.task t h) x

  held : (t r j : ℕ) → here u t ≡ true → held_at u t r j ≡ held_at s t r j
  unfolding held_at
  held t r j h = rw (← (task t h))

  queued : (r t j : ℕ) → present u r ≡ true → queued_at u r t j ≡ queued_at s r t j
  unfolding queued_at
  queued r t j p = rw (← (resource r p))

  loose_both : Loose s → Loose u
  unfolding declares
  loose_both f = record {
    processors_least = rw (← a.processors_same) f.processors_least;
    processors_most = rw (← a.processors_same) f.processors_most;
    tasks_least = rw (← a.tasks_same) f.tasks_least;
    tasks_most = rw (← a.tasks_same) f.tasks_most;
    resources_most = rw (← a.resources_same) f.resources_most;
    clock_most = rw (← a.clock_same) f.clock_most;
    reservation = λ i h. rw (← (server i h)) (f.reservation i (hs i ∙ h));
    declaration = λ i h. rw (← (task i h), ← a.resources_same) (f.declaration i (hs i ∙ h));
    deadline = λ i h. rw (← (server i h), ← a.clock_same) (f.deadline i (hs i ∙ h));
    budget = λ i h. rw (← (server i h)) (f.budget i (hs i ∙ h));
    empty = λ i h. rw (← (server i h)) (f.empty i (hs i ∙ h));
    stack = λ i h. rw (← (task i h)) ((f.stack i (hs i ∙ h)).0, λ j m d. sym (ps _) ∙ (f.stack i (hs i ∙ h)).1 j m d);
    queue = λ r p. rw (← (resource r p)) ((f.queue r (ps r ∙ p)).0, λ j m d. sym (hs _) ∙ (f.queue r (ps r ∙ p)).1 j m d);
    owner = λ r p. rw (← (resource r p)) (λ o. sym (hs _) ∙ f.owner r (ps r ∙ p) o);
    wait = λ i h. rw (← (task i h)) (λ w. sym (ps _) ∙ f.wait i (hs i ∙ h) w);
    agree = λ t h. (
      λ r p. count_ext places _ _ (λ j m. held t r j h) ∙ rw (← (resource r p)) ((f.agree t (hs t ∙ h)).0 r (ps r ∙ p)),
      λ r p. count_ext places _ _ (λ j m. queued r t j p) ∙ rw (← (task t h)) ((f.agree t (hs t ∙ h)).1 r (ps r ∙ p)),
    );
    unqueued = λ r p. rw (← (resource r p)) (f.unqueued r (ps r ∙ p));
    declared = λ t h r p. rw (← (task t h), ← (resource r p)) (f.declared t (hs t ∙ h) r (ps r ∙ p));
    opens = λ i h.
        let k = served_in l 0 s u a home i (covers_both.task i h) in
        rw (← (ends i h), ← (next_same l 0 s u a home (served s i) k)) (f.opens i (hs i ∙ h));
    idles = λ i h. rw (← (ends i h), ← (server i h), ← (end_task i h)) (f.idles i (hs i ∙ h));
    executor = λ i h. rw (← (task i h)) (λ p. sym (serves i _ h) ∙ f.executor i (hs i ∙ h) p);
    serves = λ i h r. rw (← (ends i h), ← (end_task i h)) (f.serves i (hs i ∙ h) (runs i ∙ r));
    accounts = λ i h. rw (← (task i h), ← (server i h), ← a.clock_same) (f.accounts i (hs i ∙ h));
  }

  sound_both : sound s ≡ true → sound u ≡ true
  sound_both y =
      let f = (sound_facts s).holds y in
      (sound_facts u).test
      (record {
        is_loose = loose_both f.is_loose;
        is_seated = rw (← (count_ext places (running_at s) (running_at u) (λ x m. runs x)), ← a.processors_same) f.is_seated;
      })

-- the tests of a task that is not in use stop at the first
by_actor
    : (s u : State) (t : ℕ) (xs ys : List (ℕ × Bool)) → here s t ≡ here u t
    → (here s t ≡ true → first_of ((2, not (here s t)) ∷ xs) ≡ first_of ((2, not (here u t)) ∷ ys))
    → first_of ((2, not (here s t)) ∷ xs) ≡ first_of ((2, not (here u t)) ∷ ys)
by_actor s u t xs ys same f = split (here s t) f (λ n. first_yes 2 _ xs (ap not n) ∙ sym (first_yes 2 _ ys (ap not (sym same ∙ n))))

module _ (l : Labels) (s u : State) (c : Covers l s) (a : Agree l 0 s u) (shaped : Shaped s) (other : Shaped u) (y : sound s ≡ true) where
  good : Good l s
  good = covered_good l s c shaped ((sound_facts s).holds y).is_loose

  fine : Good l u
  fine = covered_good l u (covers_both l s u c a) other ((sound_facts u).holds (sound_both l s u c a y)).is_loose

  crowds : crowded s ≡ crowded u
  unfolding crowded
  crowds = rw (count_ext places (running_at s) (running_at u) (λ x m. runs l s u c a x), a.processors_same)

  affords_both : (n i : ℕ) → if_here s (affords s n) i ≡ if_here u (affords u n) i
  unfolding if_here affords
  affords_both n i =
      split
      (here s i)
      (λ h. rw (← (here_same l 0 s u a i), h, runs l s u c a i, a.server_same.entry i (c.task i h)))
      (λ n. rw (← (here_same l 0 s u a i), n))

  each_both : (n : ℕ) → each s (affords s n) ≡ each u (affords u n)
  unfolding each
  each_both n = all_ext places (if_here s (affords s n)) (if_here u (affords u n)) (λ i m. affords_both n i)

  out_both : (n i : ℕ) → runs_out s n i ≡ runs_out u n i
  unfolding runs_out running_at
  out_both n i =
      split (here s i) (λ h. rw (← (here_same l 0 s u a i), h, a.server_same.entry i (c.task i h))) (λ n. rw (← (here_same l 0 s u a i), n))

  -- one verdict,
  firsts : (e : Event) → first_of (tests s e) ≡ first_of (tests u e)
  unfolding verdict without
  firsts (Wake t) = by_actor s u t.0 _ _ (here_same l 0 s u a t.0) (λ h. verdict_same l 0 s u a good fine (Wake t) (ap group (c.task t.0 h)))
  firsts (Suspend t) = by_actor s u t.0 _ _ (here_same l 0 s u a t.0) (λ h. verdict_same l 0 s u a good fine (Suspend t) (ap group (c.task t.0 h)))
  firsts (Dispatch x) =
      by_actor s u x.0 _ _ (here_same l 0 s u a x.0)
      (λ h. rw (here_same l 0 s u a x.0, a.server_same.entry x.0 (c.task x.0 h), crowds))
  firsts (Preempt x) = by_actor s u x.0 _ _ (here_same l 0 s u a x.0) (λ h. verdict_same l 0 s u a good fine (Preempt x) (ap group (c.task x.0 h)))
  firsts (Elapse n) =
      ap₂ (λ k b. first_of (10 when eqb n 0 || ltb 1000000 n or 11 when ltb clock_limit (k + n) or 12 when not b or accepted)) a.clock_same (each_both n)
  firsts (Recharge x) = by_actor s u x.0 _ _ (here_same l 0 s u a x.0) (λ h. verdict_same l 0 s u a good fine (Recharge x) (ap group (c.task x.0 h)))
  firsts (Lock t r) = by_actor s u t.0 _ _ (here_same l 0 s u a t.0) (λ h. verdict_same l 0 s u a good fine (Lock t r) (ap group (c.task t.0 h)))
  firsts (Unlock t r) = by_actor s u t.0 _ _ (here_same l 0 s u a t.0) (λ h. verdict_same l 0 s u a good fine (Unlock t r) (ap group (c.task t.0 h)))

  -- an accepted event is time passing or the group's own
  seen : (e : Event) → Grounds s e → sees 0 (kind_by l e) ≡ true
  seen (Wake t) g = eq-eqb _ 0 (c.task t.0 g.0)
  seen (Suspend t) g = eq-eqb _ 0 (c.task t.0 g.0)
  seen (Dispatch x) g = eq-eqb _ 0 (c.task x.0 g.0)
  seen (Preempt x) g = eq-eqb _ 0 (c.task x.0 g.0)
  seen (Elapse n) g = refl
  seen (Recharge x) g = eq-eqb _ 0 (c.task x.0 g.0)
  seen (Lock t r) g = eq-eqb _ 0 (c.task t.0 g.0)
  seen (Unlock t r) g = eq-eqb _ 0 (c.task t.0 g.0)

  -- one answer, and agreement after it
  sound_unread : (e : Event) → ((stepped s e).answer ≡ (stepped u e).answer) × Agree l 0 (stepped s e).state (stepped u e).state
  sound_unread e =
      rw (stepped_sound s e y, stepped_sound u e (sound_both l s u c a y), ← (firsts e))
      (outcome_same l 0 s u a good fine e (λ n d. count_ext places (runs_out s n) (runs_out u n) (λ i m. out_both n i)) (first_of (tests s e))
      (λ h.
      let gs = grounds s e (unrefused_free s e h) in
      (seen e gs, gs, grounds u e (unrefused_free u e (sym (firsts e) ∙ h))))
      (λ h. a.task_same.entry (number_of e) (c.task (number_of e) (admitted_here s e (admitted 62 (omega arith) s e h)))))

pub unread
    : (l : Labels) (s u : State) → Covers l s → Agree l 0 s u → Shaped s → Shaped u
    → (e : Event) → ((stepped s e).answer ≡ (stepped u e).answer) × Agree l 0 (stepped s e).state (stepped u e).state
unfolding stepped
unread l s u c a shaped other e =
    split
    (sound s)
    (λ y. sound_unread l s u c a shaped other y e)
    (λ n.
    let m : sound u ≡ false = unheld_fails _ (λ y. holds_fails (sound_both l u s (covers_both l s u c a) (agree_sym l 0 s u a) y) n) in
    rw (n, m) (refl, a))

-- what is in use is so after a step
pub stepped_here : (st : State) (e : Event) (i : ℕ) → here (stepped st e).state i ≡ here st i
stepped_here st e i = stepped_has (λ x. here x i ≡ here st i) st e refl (λ y h. after_here st e i)

pub stepped_present : (st : State) (e : Event) (r : ℕ) → present (stepped st e).state r ≡ present st r
stepped_present st e r = stepped_has (λ x. present x r ≡ present st r) st e refl (λ y h. after_present st e r)

-- the labels that say what is in use
module _ (st : State) where
  abbrev pub used : Labels
  used = record { of_task = λ i. if here st i then 0 else 1; of_resource = λ r. if present st r then 0 else 1 }

  pub used_covers : Covers used st
  used_covers = record { task = λ i h. if_yes (here st i) 0 1 h; resource = λ r p. if_yes (present st r) 0 1 p }

  pub used_here : (i : ℕ) → used.of_task i ≡ 0 → here st i ≡ true
  used_here i k = split (here st i) (λ h. h) (λ n. absurd (let z : 1 ≡ 0 = rw n at k in omega arith))

  pub used_present : (r : ℕ) → used.of_resource r ≡ 0 → present st r ≡ true
  used_present r k = split (present st r) (λ h. h) (λ n. absurd (let z : 1 ≡ 0 = rw n at k in omega arith))
