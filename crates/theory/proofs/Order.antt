-- Demand 3: from a sound, shaped state, where neither order is refused for want of a processor, each event gets its one answer and the last states are
-- equal. `free` is the machine without processors; on a sound state a step that is refused neither 1 nor 8 does what `free` does, and refusal 1 never
-- comes. Whether `free` refuses an event and what it answers are its group's own matter (`verdict_same`, `outcome_same`): each test reads what the group
-- reads, a lock of another group's resource is refused at 2, 3 or 4 before its owner is read, and an unlock of one at 17. It keeps `Good`, and writes
-- what is the group's alone (Locality.antt), so it meets the laws of reordering for any labelling that fits (`ordered`). The groups of rule 11.1 are
-- one: a task has its group's number, a resource that of the tasks that declare it. Assumes nothing.
use Rattle.theory.proofs.Kit.{◌≡◌, refl, sym, ap, ◌∙◌, true, false, Bool, ◌||◌, true≢false, ◌&&◌, Option, none, some, List, [], ◌∷◌, ⊎_elim, ℕ, arith, eqb, ext_get_or, eqb-true, eqb-false, eq-eqb}
use lib.ListN.{get_elem? as at}
use Rattle.laws.specs.Tests.{first_of, without}
use Rattle.laws.specs.Loops.{best_to, count_to}
use Rattle.laws.proofs.Cases.{split, unheld_fails, holds_fails, and_left, and_right, and_both}
use Rattle.laws.proofs.Count.{count_ext}
use Rattle.laws.proofs.Best.{best_is}
use Rattle.reordering.specs.Order.{group, sees, Kind}
use Rattle.reordering.proofs.Local.{group_inj, time_group, commute}
use Rattle.reordering.specs.Machine.{Laws, Local}
use Rattle.reordering.specs.Place.{Matching}
use Rattle.reordering.specs.Run.{after, log, Each, Never}
use Rattle.reordering.proofs.Answer.{reorder_places}
use Rattle.theory.proofs.Declared.{Task, State, Event, Wake, Suspend, Dispatch, Preempt, Elapse, Recharge, Lock, Unlock, Ok, RefusedWaiting, Answer, Outcome, Table}
use Rattle.model.specs.State.{task_at, resource_at, awaited, here, present, declares, owned, owner_no, places, served, no_server, no_task, no_resource, nobody, in_set}
use Rattle.model.specs.Step.{tests, ends_at, top_of, answered, state_after, refusing, outcome, stepped, free, move}
use Rattle.model.specs.Events.{wakes, rests, runs_out, number_of}
use Rattle.model.specs.Sound.{sound}
use Rattle.model.specs.Shape.{Shaped}
use Rattle.model.specs.Fresh.{fresh_refusal, fresh_state}
use Rattle.model.specs.Groups.{itself, through, group_of, any_key, kind_of}
use Rattle.model.proofs.Grounds.{Grounds, grounds, unrefused_free}
use Rattle.model.proofs.Chain.{here_below}
use Rattle.model.proofs.Sound.{sound_facts}
use Rattle.fresh.proofs.Fresh.{fresh_sound, fresh_shaped}
use Rattle.theory.specs.Runs.{refused_by}
use Rattle.theory.proofs.Agreement.{Labels, Agree, Homed, here_same, present_same, executes_same, served_same, served_home, Good, good_home, agree_sym, agree_trans, Fits, good_self}
use Rattle.theory.proofs.Locality.{kind_by, lock_label, unlock_label, owned_label, wakes_same, rests_same, after_same, after_left}
use Rattle.theory.proofs.Groups.{fact_shares, linked_group}
use Rattle.theory.proofs.Outcomes.{stepped_sound, stepped_free, stepped_has, outcome_has, outcome_not, no_test_1}
use Rattle.theory.proofs.Soundness.{kept, after_loose}
use Rattle.theory.proofs.Frames.{declared_kept}
use Rattle.theory.proofs.Steps.{after_here, after_present}

-- labels that fit what is declared do so ever after
fits_kept : (l : Labels) (st : State) (e : Event) → Fits l st → Fits l (state_after st e)
unfolding declares
fits_kept l st e f t r h p d =
    f t r (sym (after_here st e t) ∙ h) (sym (after_present st e r) ∙ p) (ap (λ x. in_set x r) (sym (declared_kept st e t)) ∙ d)

good_after : (l : Labels) (st : State) (e : Event) → Good l st → Grounds st e → Good l (state_after st e)
good_after l st e ok g =
    let k = after_loose st ok.shaped ok.loose e g in
    record { loose = k.1; shaped = k.0; fits = fits_kept l st e ok.fits }

-- the refusal, if there is one
unfoldable pub verdict : State → Event → Option ℕ
verdict st e = first_of (without 8 (tests st e))

module _ (l : Labels) (g : ℕ) (s u : State) (a : Agree l g s u) (good : Good l s) (fine : Good l u) where
  abbrev hs : (i : ℕ) → here s i ≡ here u i
  hs = here_same l g s u a

  abbrev ps : (r : ℕ) → present s r ≡ present u r
  ps = present_same l g s u a

  -- the chain of a resource's owner
  ends_same : (t r : ℕ) → present s r ≡ true → l.of_resource r ≡ g → ends_at s t r ≡ ends_at u t r
  unfolding ends_at
  ends_same t r p e =
      split
      (owned (resource_at s r).owner)
      (λ y.
      let h : here s (owner_no (resource_at s r).owner) ≡ true = good.loose.owner r p y in
      let k : l.of_task (owner_no (resource_at s r).owner) ≡ g = sym ((good_home l s good).owns r p h) ∙ e in
      rw (← (a.resource_same.entry r e), served_same l g s u a (good_home l s good) _ k) refl)
      (λ n. rw (← (a.resource_same.entry r e), n) refl)

  lock_same : (t r : ℕ) → l.of_task t ≡ g → verdict s (Lock (record { 0 = t }) r) ≡ verdict u (Lock (record { 0 = t }) r)
  unfolding verdict first_of without declares
  lock_same t r e =
      split
      (here s t)
      (λ h.
      split
      (present s r)
      (λ p.
      split
      (declares s t r)
      (λ d.
      let k : l.of_resource r ≡ g = good.fits t r h p d ∙ e in
      rw (hs t, ps r, ends_same t r p k, a.task_same.entry t e, a.resource_same.entry r k) refl)
      (λ d. rw (sym (hs t) ∙ h, sym (ps r) ∙ p, h, p, ← (a.task_same.entry t e), d) refl))
      (λ p. rw (sym (hs t) ∙ h, sym (ps r) ∙ p, h, p) refl))
      (λ h. rw (sym (hs t) ∙ h, h) refl)

  -- the resources of others t does not own
  unowned : (t r : ℕ) → l.of_task t ≡ g → here s t ≡ true → present s r ≡ true → (l.of_resource r ≡ g → ⊥) →
      (eqb (owner_no (resource_at s r).owner) t ≡ false) × (eqb (owner_no (resource_at u r).owner) t ≡ false)
  unowned t r e h p n = (
    unheld_fails _ (λ y. n (owned_label l s good t r h p (eqb-true _ t y) ∙ e)),
    unheld_fails _ (λ y. n (owned_label l u fine t r (sym (hs t) ∙ h) (sym (ps r) ∙ p) (eqb-true _ t y) ∙ e)),
  )

  unlock_same : (t r : ℕ) → l.of_task t ≡ g → verdict s (Unlock (record { 0 = t }) r) ≡ verdict u (Unlock (record { 0 = t }) r)
  unfolding verdict first_of without top_of
  unlock_same t r e =
      split
      (eqb (l.of_resource r) g)
      (λ y. rw (hs t, ps r, a.task_same.entry t e, a.resource_same.entry r (eqb-true _ g y)) refl)
      (λ n.
      split
      (here s t)
      (λ h.
      split
      (present s r)
      (λ p.
      let o = unowned t r e h p (eqb-false _ g n) in
      rw (hs t, ps r, a.task_same.entry t e, o.0, o.1) refl)
      (λ p. rw (sym (hs t) ∙ h, sym (ps r) ∙ p, h, p) refl))
      (λ h. rw (sym (hs t) ∙ h, h) refl))

  pub verdict_same : (e : Event) → kind_by l e ≡ group g → verdict s e ≡ verdict u e
  unfolding verdict first_of without
  verdict_same (Wake t) k = rw (hs t.0, a.task_same.entry t.0 (group_inj k)) refl
  verdict_same (Suspend t) k = rw (hs t.0, a.task_same.entry t.0 (group_inj k)) refl
  verdict_same (Dispatch x) k = rw (hs x.0, a.server_same.entry x.0 (group_inj k)) refl
  verdict_same (Preempt x) k = rw (hs x.0, a.server_same.entry x.0 (group_inj k)) refl
  verdict_same (Elapse n) k = absurd (time_group k)
  verdict_same (Recharge x) k = rw (hs x.0, a.server_same.entry x.0 (group_inj k), a.clock_same) refl
  verdict_same (Lock t r) k = lock_same t.0 r (group_inj k)
  verdict_same (Unlock t r) k = unlock_same t.0 r (group_inj k)

  -- the answer, from states before and after that agree; of an elapse it counts all servers
  answered_same
      : (v w : State) → Agree l g v w → Homed l v → (e : Event) → sees g (kind_by l e) ≡ true → Grounds s e
      → ((n : ℕ) → e ≡ Elapse n → count_to places (runs_out s n) ≡ count_to places (runs_out u n)) → answered s v e ≡ answered u w e
  answered_same v w b later (Wake t) k o counts =
      ap Ok (count_ext places (wakes s t.0) (wakes u t.0) (λ i m. wakes_same l g s u a (good_home l s good) (good_home l u fine) t.0 (eqb-true _ g k) i))
  answered_same v w b later (Suspend t) k o counts =
      ap Ok (count_ext places (rests s t.0) (rests u t.0) (λ i m. rests_same l g s u a (good_home l s good) (good_home l u fine) t.0 (eqb-true _ g k) i))
  answered_same v w b later (Dispatch x) k o counts =
      rw (executes_same l g v w b later x.0 (eqb-true _ g k), served_same l g v w b later x.0 (eqb-true _ g k)) refl
  answered_same v w b later (Preempt x) k o counts =
      let q = b.task_same.entry (served s x.0) (served_home l s (good_home l s good) x.0 ∙ eqb-true _ g k) in
      rw (executes_same l g s u a (good_home l s good) x.0 (eqb-true _ g k), ← (served_same l g s u a (good_home l s good) x.0 (eqb-true _ g k)), q) refl
  answered_same v w b later (Elapse n) k o counts = ap Ok (counts n refl)
  answered_same v w b later (Recharge x) k o counts = rw (b.server_same.entry x.0 (eqb-true _ g k)) refl
  answered_same v w b later (Lock t r) k o counts =
      rw (a.resource_same.entry r (lock_label l s good t r o ∙ eqb-true _ g k), served_same l g v w b later t.0 (eqb-true _ g k)) refl
  answered_same v w b later (Unlock t r) k o counts = rw (a.resource_same.entry r (unlock_label l s good t r o ∙ eqb-true _ g k)) refl

  -- the task that an event names is as it is, and so is what it awaits
  named_same : (e : Event) → kind_by l e ≡ group g → task_at s (number_of e) ≡ task_at u (number_of e)
  named_same (Wake t) k = a.task_same.entry t.0 (group_inj k)
  named_same (Suspend t) k = a.task_same.entry t.0 (group_inj k)
  named_same (Dispatch x) k = a.task_same.entry x.0 (group_inj k)
  named_same (Preempt x) k = a.task_same.entry x.0 (group_inj k)
  named_same (Elapse n) k = absurd (time_group k)
  named_same (Recharge x) k = a.task_same.entry x.0 (group_inj k)
  named_same (Lock t r) k = a.task_same.entry t.0 (group_inj k)
  named_same (Unlock t r) k = a.task_same.entry t.0 (group_inj k)

  refusing_same : (x y : Task) (n : ℕ) → (n ≡ 62 → x ≡ y) → refusing x.mode n ≡ refusing y.mode n
  refusing_same x y n same =
      split (eqb n 62) (λ m. rw m (ap (λ k. RefusedWaiting (awaited k.mode)) (same (eqb-true n 62 m)))) (λ m. rw m)

  -- so one verdict has one outcome
  pub outcome_same
      : (e : Event) → ((n : ℕ) → e ≡ Elapse n → count_to places (runs_out s n) ≡ count_to places (runs_out u n)) → (v : Option ℕ)
      → (v ≡ none → (sees g (kind_by l e) ≡ true) × Grounds s e × Grounds u e) → (v ≡ some 62 → task_at s (number_of e) ≡ task_at u (number_of e))
      → ((outcome v s e).answer ≡ (outcome v u e).answer) × Agree l g (outcome v s e).state (outcome v u e).state
  outcome_same e counts none has names =
      let o = has refl in
      let b = after_same l g s u a good fine e o.0 o.1 o.2 in
      (answered_same (state_after s e) (state_after u e) b (good_home l _ (good_after l s e good o.1)) e o.0 o.1 counts, b)
  outcome_same e counts (some n) has names = (refusing_same _ _ n (λ q. names (ap some q)), a)

-- `free` as a pair
abbrev freely : State → Event → Answer × State
freely st e = ((free st e).answer, (free st e).state)

-- the refusals that only the tests of processors give
abbrev for_processors : Answer → Bool
for_processors a = refused_by 1 a || refused_by 8 a

-- what is refused neither 1 nor 8 is free
unlike : (st : State) (e : Event) → for_processors (stepped st e).answer ≡ false → stepped st e ≡ free st e
unfolding stepped
unlike st e h =
    split
    (sound st)
    (λ y.
    let k : for_processors (outcome (first_of (tests st e)) st e).answer ≡ false = ap (λ o. for_processors o.answer) (sym (stepped_sound st e y)) ∙ h in
    stepped_free st e y (λ q. true≢false (rw q at k)))
    (λ n. holds_fails refl (rw n at h))

module _ (l : Labels) where
  good_keeps : (st : State) (e : Event) → Good l st → Good l (free st e).state
  unfolding free
  good_keeps st e ok = outcome_has (Good l) (first_of (without 8 (tests st e))) st e ok (λ h. good_after l st e ok (grounds st e h))

  -- states on which all groups agree are equal
  whole : (s u : State) → Good l s → Good l u → ((g : ℕ) → Agree l g s u) → s ≡ u
  whole s u good fine a =
      let p = good.shaped in
      let q = fine.shaped in
      let ss = ext_get_or no_server _ _ (p.servers ∙ sym q.servers) (λ i m. (a (l.of_task i)).server_same.entry i refl) in
      let ts = ext_get_or no_task _ _ (p.tasks ∙ sym q.tasks) (λ i m. (a (l.of_task i)).task_same.entry i refl) in
      let rs = ext_get_or no_resource _ _ (p.resources ∙ sym q.resources) (λ i m. (a (l.of_resource i)).resource_same.entry i refl) in
      λ i. record {
        processors = (a 0).processors_same i;
        tasks = (a 0).tasks_same i;
        resources = (a 0).resources_same i;
        clock = (a 0).clock_same i;
        server = ss i;
        task = ts i;
        resource = rs i;
      }

  -- what `free` reads and writes is its group's
  free_same
      : (g : ℕ) (s u : State) (e : Event) → kind_by l e ≡ group g → Good l s → Good l u → Agree l g s u
      → ((free s e).answer ≡ (free u e).answer) × Agree l g (free s e).state (free u e).state
  unfolding free verdict
  free_same g s u e k good fine a =
      let q = verdict_same l g s u a good fine e k in
      rw (← q)
      (outcome_same l g s u a good fine e (λ n p. absurd (time_group (ap (kind_by l) (sym p) ∙ k))) (verdict s e)
      (λ p. (rw k (eq-eqb g g refl), grounds s e p, grounds u e (sym q ∙ p)))
      (λ p. named_same l g s u a good fine e k))

  leaves : (g h : ℕ) (st : State) (e : Event) → kind_by l e ≡ group h → (h ≡ g → ⊥) → Good l st → Agree l g st (free st e).state
  unfolding free
  leaves g h st e k n good =
      outcome_has (Agree l g st) (first_of (without 8 (tests st e))) st e (good_self l g st good) (λ p. after_left l h g st good e k n (grounds st e p))

  free_local : Local (kind_by l) freely (Good l) (Agree l)
  free_local =
      record {
        agree_sym = agree_sym l;
        agree_trans = agree_trans l;
        whole = whole;
        keeps = good_keeps;
        reads = λ g s u e k good fine a. (free_same g s u e k good fine a).0;
        writes = λ g s u e k good fine a. (free_same g s u e k good fine a).1;
        leaves = leaves;
      }

  laws : Laws (kind_by l) move freely for_processors (Good l)
  laws =
      record {
        keeps = good_keeps;
        unlike = λ st e good h. ap (λ (o : Outcome). (o.answer, o.state)) (unlike st e h);
        commute = commute free_local;
      }

-- the groups as labels
unfoldable pub declarer : State → ℕ → ℕ → Bool
declarer st r t = here st t && declares st t r

unfoldable pub labels_of : State → Labels
labels_of st = record { of_task = group_of st; of_resource = λ r. group_of st (best_to nobody places (declarer st r) any_key) }

labels_fit : (st : State) → Fits (labels_of st) st
unfolding labels_of declarer
labels_fit st t r h p d =
    ⊎_elim
    (λ n. holds_fails (and_both _ _ h d) (n.nobody t (here_below st t h)))
    (λ s.
    let b : ℕ = best_to nobody places (declarer st r) any_key in
    let y : here st b ≡ true = and_left (here st b) _ s.counts in
    linked_group st b t y h
    (through
    (fact_shares st b t
    (record { left = y; right = h; common = r; used = p; by_left = and_right (here st b) _ s.counts; by_right = d }))
    itself))
    (best_is nobody places (declarer st r) any_key (omega arith))

kinds_same : (st : State) → kind_of st ≡ kind_by (labels_of st)
unfolding labels_of
kinds_same st = λ i e. each e i
  where
    each : (e : Event) → kind_of st e ≡ kind_by (labels_of st) e
    each (Wake t) = refl
    each (Suspend t) = refl
    each (Dispatch s) = refl
    each (Preempt s) = refl
    each (Elapse n) = refl
    each (Recharge s) = refl
    each (Lock t r) = refl
    each (Unlock t r) = refl

-- an event of another group leaves a group as it is
pub left_alone
    : (st : State) → Shaped st → sound st ≡ true → (e : Event) (g h : ℕ) → kind_of st e ≡ group h → (h ≡ g → ⊥)
    → Good (labels_of st) st × Agree (labels_of st) g st (stepped st e).state × Good (labels_of st) (stepped st e).state
left_alone st shaped s e g h k n =
    let l = labels_of st in
    let good : Good l st = record { loose = ((sound_facts st).holds s).is_loose; shaped = shaped; fits = labels_fit st } in
    let after = stepped_has (λ u. Agree l g st u × Good l u) st e (good_self l g st good, good)
    (λ y free.
    let o = grounds st e (unrefused_free st e free) in
    (after_left l h g st good e (ap (λ kind. kind e) (sym (kinds_same st)) ∙ k) n o, good_after l st e good o)) in
    (good, after.0, after.1)

-- what is not refused 8 is not refused 1 either
unrefused : (st : State) → sound st ≡ true → Shaped st → (xs : List Event) → Never (refused_by 8) (log move st xs) → Never for_processors (log move st xs)
unfolding log Each
unrefused st h k [] n = n
unrefused st h k (e ∷ es) n =
    let p = kept st e k h in
    let one = ap (λ (o : Outcome). refused_by 1 o.answer) (stepped_sound st e h) ∙ outcome_not 1 (first_of (tests st e)) st e (no_test_1 st e) in
    (rw (one, n.0) refl, unrefused (stepped st e).state p.1 p.0 es n.1)

-- for any labelling of tasks and resources that fits the declarations
pub ordered
    : (l : Labels) (kind : Event → Kind) → kind ≡ kind_by l → (st : State) → Fits l st → Shaped st → sound st ≡ true →
    (xs ys : List Event) (m : Matching kind xs ys) →
    Never (refused_by 8) (log move st xs) →
    Never (refused_by 8) (log move st ys) →
    ((i : ℕ) (r : Event × Answer) → at (log move st xs) i ≡ some r → at (log move st ys) (m.to i) ≡ some r) ×
    (after move st xs ≡ after move st ys)
ordered l kind same st f k h xs ys m p q =
    let w : Laws kind move freely for_processors (Good l) = rw same (laws l) in
    reorder_places w st
    (record { loose = ((sound_facts st).holds h).is_loose; shaped = k; fits = f })
    xs ys m (unrefused st h k xs p) (unrefused st h k ys q)

-- for the groups: `OrderFreeFrom` of demand 3,
pub order_free_from
    : (st : State) → Shaped st → sound st ≡ true → (xs ys : List Event) (m : Matching (kind_of st) xs ys) →
    Never (refused_by 8) (log move st xs) →
    Never (refused_by 8) (log move st ys) →
    ((i : ℕ) (r : Event × Answer) → at (log move st xs) i ≡ some r → at (log move st ys) (m.to i) ≡ some r) ×
    (after move st xs ≡ after move st ys)
order_free_from st = ordered (labels_of st) (kind_of st) (kinds_same st) st (labels_fit st)

-- and `OrderFree`, from a fresh table
pub order_free
    : (tb : Table) → fresh_refusal tb ≡ none → (xs ys : List Event) (m : Matching (kind_of (fresh_state tb)) xs ys) →
    Never (refused_by 8) (log move (fresh_state tb) xs) →
    Never (refused_by 8) (log move (fresh_state tb) ys) →
    ((i : ℕ) (r : Event × Answer) → at (log move (fresh_state tb) xs) i ≡ some r → at (log move (fresh_state tb) ys) (m.to i) ≡ some r) ×
    (after move (fresh_state tb) xs ≡ after move (fresh_state tb) ys)
order_free tb a = order_free_from (fresh_state tb) (fresh_shaped tb) (fresh_sound tb a)
