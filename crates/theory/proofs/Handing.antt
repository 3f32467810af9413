-- Unlock with a queue: what reached the releaser through the resource goes to the heir, the rest stays, and who executes. Assumes nothing.
use Rattle.std.specs.Prelude.{if◌then◌else◌}
use Rattle.theory.proofs.Kit.{◌≡◌, refl, sym, ap, ◌∙◌, Bool, true, false, ◌&&◌, ◌⊎◌, inl, inr, ⊎_elim, ℕ, zero, suc, ◌<◌, arith, ltb, eqb, get_or, eqb-true, eq-eqb, ne_eqb}
use borrow.Author.Tests.{le-ltb}
use Rattle.laws.specs.Tests.{bit}
use Rattle.laws.specs.Loops.{count_to}
use Rattle.laws.specs.Links.{Leads}
use Rattle.laws.proofs.Cases.{split, holds_fails, unheld_fails, and_left, and_right, and_both}
use Rattle.laws.proofs.Count.{count_zero}
use Rattle.theory.proofs.Declared.{Mode, Suspended, Ready, Waiting, Some, Server, State, Event, Unlock}
use Rattle.model.specs.State.{places, server_at, task_at, resource_at, here, present, running, awaited, owner_no, owner_of, next, served, running_for, executor_of, executing}
use Rattle.model.specs.Sound.{held_at}
use Rattle.model.specs.Events.{with_mode, with_owner, pushed, popped, dequeued, first_waiter, passed, unlocked, changed, acting}
use Rattle.model.specs.Step.{top_of, state_after, stepped}
use Rattle.model.proofs.Chain.{here_below, present_below, next_here, linked_here, end_itself, same_served}
use Rattle.model.proofs.Sound.{Loose}
use Rattle.model.proofs.RuleH.{settled_next}
use Rattle.theory.specs.Rules.{Proper, Through, ExecutorsStay, Only, Nothing, Passed, HandedOver}
use Rattle.theory.proofs.Executing.{runs_ended, Way}
use Rattle.theory.proofs.Passing as T
use Rattle.theory.proofs.Steps.{properly, executor_none, nobody_serves, after_server, after_resource, task_is, rest_by, same_for, by_rule_h, executor_chosen, executor_same}
use Rattle.theory.proofs.Readings.{other_for}
use Rattle.theory.proofs.Lambda.{served_leads}
use Rattle.laws.proofs.Ends.{leads_last}

-- a task that awaits a resource waits for it
awaits_is : (m : Mode) (r : ℕ) → r < places → awaited m ≡ r → m ≡ Waiting r
awaits_is Suspended r l e = absurd (omega arith)
awaits_is Ready r l e = absurd (omega arith)
awaits_is (Waiting q) r l e = ap Waiting e

module _ (st : State) where
  leads_here : (k x y : ℕ) → here st x ≡ true → Leads places (next st) k x y → here st y ≡ true
  unfolding Leads
  leads_here zero x y u l = ap (here st) (sym l) ∙ u
  leads_here (suc k) x y u l = leads_here k (next st x) y (next_here st x l.0) l.1

  -- a link goes from a task to the owner of what it awaits
  linked_owner
      : (w t : ℕ) → t < places → next st w ≡ t
      → (present st (awaited (task_at st w).mode) ≡ true) × (owner_no (resource_at st (awaited (task_at st w).mode)).owner ≡ t)
  unfolding next owner_of
  linked_owner w t l e =
      let q : ℕ = awaited (task_at st w).mode in
      let o : owner_of st q ≡ t = rw (linked_here st w (rw e l)) at e in
      split
      (present st q && here st (owner_no (resource_at st q).owner))
      (λ y. (and_left (present st q) _ y, rw y at o))
      (λ n. absurd (omega (arith, rw n at o)))

  -- of a stack of one the top is all
  only_held
      : Loose st → (t q : ℕ) → here st t ≡ true → present st q ≡ true → owner_no (resource_at st q).owner ≡ t → (task_at st t).depth ≡ 1 → top_of st t ≡ q
  unfolding held_at top_of
  only_held facts t q u p o deep =
      rw deep
      (split
      (eqb (get_or (task_at st t).held 0 0) q)
      (λ y. eqb-true _ q y)
      (λ n. absurd (omega (arith, (facts.agree t u).0 q p, ap bit (eq-eqb _ t o), none n))))
    where
      off : eqb (get_or (task_at st t).held 0 0) q ≡ false → (j : ℕ) → held_at st t q j ≡ false
      off n zero = unheld_fails _ (λ h. holds_fails (and_right (ltb 0 (task_at st t).depth) _ h) n)
      off n (suc j) =
          unheld_fails _ (λ h. holds_fails (and_left (ltb (suc j) (task_at st t).depth) _ h) (le-ltb (suc j) (task_at st t).depth (omega arith)))

      none : eqb (get_or (task_at st t).held 0 0) q ≡ false → count_to places (held_at st t q) ≡ 0
      none n = count_zero places (held_at st t q) (λ j l. off n j)

module _ (st : State) (t r : ℕ) (some : 0 < (resource_at st r).waiting) (way : Way st (Unlock (record { 0 = t }) r)) where
  abbrev h : ℕ
  h = first_waiter (resource_at st r)

  abbrev e : Event
  e = Unlock (record { 0 = t }) r

  abbrev mid : State
  mid = T.after st t r some way

  abbrev after : State
  after = state_after st e

  abbrev used : here st t ≡ true
  used = way.ground.0

  abbrev known : present st r ≡ true
  known = way.ground.1

  abbrev wants : ℕ → Bool
  wants y = here st y && eqb (awaited (task_at st y).mode) r

  wants_by : (w : ℕ) → here st w ≡ true → (task_at st w).mode ≡ Waiting r → wants w ≡ true
  wants_by w u m = and_both (here st w) _ u (eq-eqb _ r (ap awaited m))

  by_wants : (w : ℕ) → wants w ≡ true → (task_at st w).mode ≡ Waiting r
  by_wants w v = awaits_is (task_at st w).mode r (present_below st r known) (eqb-true _ r (and_right (here st w) _ v))

  changed_is : changed st e ≡ mid
  unfolding unlocked passed
  changed_is = rw (ne_eqb (resource_at st r).waiting 0 (λ z. omega arith))

  after_links : (y : ℕ) → next after y ≡ next mid y
  unfolding state_after
  after_links y = settled_next st (changed st e) (acting st e) y ∙ ap (λ z. next z y) changed_is

  after_mid : (y : ℕ) → served after y ≡ served mid y
  after_mid = same_served after mid after_links

  -- rule 7.10: what reached the releaser through this resource goes to the heir,
  through_heir : (k s w : ℕ) → here st s ≡ true → Leads places (next st) k s w → (task_at st w).mode ≡ Waiting r → served after s ≡ h
  through_heir k s w u l m = after_mid s ∙ T.ends_through st t r some way k s w u l (wants_by w (leads_here st k s w u l) m)

  -- the entries that are stored
  task_now
      : (y : ℕ)
      → task_at (changed st e) y ≡ (if eqb y h then pushed r (with_mode Ready (task_at st h)) else if eqb y t then popped (task_at st t) else task_at st y)
  task_now y = ap (λ z. task_at z y) changed_is ∙ T.pass_task st t r some way y

  resource_now : (q : ℕ) → resource_at (changed st e) q ≡ (if eqb q r then with_owner (Some (record { 0 = h })) (dequeued (resource_at st r)) else resource_at st q)
  resource_now q = ap (λ z. resource_at z q) changed_is ∙ T.pass_resource st t r some way q

  server_now : (s : ℕ) → server_at (changed st e) s ≡ server_at st s
  server_now s = ap (λ z. server_at z s) changed_is

  -- the heir did not execute: the releaser's server takes it where it serves it now
  heir_idle : executing st h ≡ false
  heir_idle = unheld_fails _ (λ y. omega (arith, runs_ended st way.facts h y, T.heir_next st t r some way, here_below st t used))

  heir_free : running_for after h (executor_of st h) ≡ false
  heir_free = rw (executor_none st h (T.heir_used st t r some way) heir_idle) (nobody_serves after h)

  -- servers of any third task see no difference
  others : ExecutorsStay st after (λ y. (y ≡ t) ⊎ (y ≡ h))
  others y u n =
      executor_same st e way y u
      (λ s v.
      ⊎_elim
      (λ q.
      other_for after y s (λ p. n (inr (sym p ∙ after_mid s ∙ q.1))) ∙ sym (other_for st y s (λ p. n (inl (sym p ∙ q.0)))))
      (λ q. same_for st e way y s (after_mid s ∙ q) (ap (λ (x : Server). running x.phase) (after_server st e s ∙ server_now s)))
      (T.ends_after_pass st t r some way s v))

  -- the releaser waits for nobody, and serves itself
  releaser_end : served after t ≡ t
  releaser_end =
      let unwanted : wants t ≡ false =
      unheld_fails _ (λ y. omega (arith, ap awaited (T.ready st t r some way), eqb-true _ r (and_right (here st t) _ y), present_below st r known)) in
      let still = T.link_others st t r some way t (λ q. T.apart st t r some way (sym q)) unwanted in
      after_mid t ∙ end_itself mid t (rw still (T.ended st t r some way))

  others_stay : (s : ℕ) → here st s ≡ true → (served st s ≡ t → ⊥) → served after s ≡ served st s
  others_stay s u n =
      ⊎_elim (λ q. absurd (n q.0)) (λ q. after_mid s ∙ q)
      (T.ends_after_pass st t r some way s u)

  -- where it is the releaser's only resource, all that ended at the releaser came through it
  only_through : (task_at st t).depth ≡ 1 → (s : ℕ) → here st s ≡ true → served st s ≡ t → (s ≡ t → ⊥) → served after s ≡ h
  only_through one s u q n =
      ⊎_elim
      (λ z. absurd (n (z ∙ q)))
      (λ z.
      let a = leads_last places (next st) z.0 s (served st s) z.1 in
      let o = linked_owner st a.0 t (here_below st t used) (a.2 ∙ q) in
      let same : awaited (task_at st a.0).mode ≡ r = sym (only_held st way.facts t _ used o.0 o.1 one) ∙ way.ground.4 in
      through_heir z.0 s a.0 u a.1 (awaits_is (task_at st a.0).mode r (present_below st r known) same))
      (served_leads st s)

  goes_through : (s : ℕ) → here st s ≡ true → Through st r s → served after s ≡ h
  unfolding Leads
  goes_through s u q =
      ⊎_elim
      (λ z. through_heir 0 s q.waiter u z q.here_waits)
      (λ b. through_heir (suc b.links) s q.waiter u b.way q.here_waits)
      q.way

  -- and the rest stays
  goes_apart : (s : ℕ) → here st s ≡ true → (Through st r s → ⊥) → served after s ≡ served st s
  unfolding Leads
  goes_apart s u n = after_mid s ∙ T.ends_apart st t r some way s (λ k v l y. n (leads_through k v l (by_wants v y)))
    where
      leads_through : (k v : ℕ) → Leads places (next st) k s v → (task_at st v).mode ≡ Waiting r → Through st r s
      leads_through zero v l m = record { waiter = v; here_waits = m; way = inl l }
      leads_through (suc k) v l m = record { waiter = v; here_waits = m; way = inr (record { links = k; way = l }) }

  passes : Passed st after t r h
  passes = record {
    rest =
        rest_by st e way st.clock Nothing (λ y. (y ≡ t) ⊎ (y ≡ h)) (Only r) (ap (λ z. z.clock) changed_is)
        (λ s u n. server_now s)
        (λ y u n. task_now y ∙ rw (ne_eqb y h (λ q. n (inr q)), ne_eqb y t (λ q. n (inl q))))
        (λ q u n. resource_now q ∙ rw (ne_eqb q r n));
    owner = after_resource st e r ∙ resource_now r ∙ rw (eq-eqb r r refl);
    heir_stack = task_is st e way h (T.heir_used st t r some way) (pushed r (with_mode Ready (task_at st h))) (task_now h ∙ rw (eq-eqb h h refl));
    releaser_stack = task_is st e way t used (popped (task_at st t)) (task_now t ∙ rw (ne_eqb t h (λ q. T.apart st t r some way (sym q)), eq-eqb t t refl));
    through = goes_through;
    apart = goes_apart;
    executors = others;
    goes_with_heir = (by_rule_h st e way h (T.heir_used st t r some way)).takes heir_free;
    heir_goes_on = executor_chosen st e way h (T.heir_used st t r some way) heir_free;
    stays_with_releaser = (by_rule_h st e way t used).keeps;
    releaser_goes_on = λ f. executor_chosen st e way t used f f;
  }

  hands_over : (task_at st t).depth ≡ 1 → HandedOver st after t r h
  hands_over one = record { passed = passes; own = releaser_end; inherited = only_through one; others = others_stay }

pub passes_on
    : (st : State) (j r : ℕ) → Proper st (Unlock (record { 0 = j }) r) → 0 < (resource_at st r).waiting
    → Passed st (stepped st (Unlock (record { 0 = j }) r)).state j r (first_waiter (resource_at st r))
passes_on st j r p some =
    properly st (Unlock (record { 0 = j }) r) p (λ after. Passed st after j r (first_waiter (resource_at st r))) (passes st j r some)

pub hands_all
    : (st : State) (j r : ℕ) → Proper st (Unlock (record { 0 = j }) r) → 0 < (resource_at st r).waiting → (task_at st j).depth ≡ 1
    → HandedOver st (stepped st (Unlock (record { 0 = j }) r)).state j r (first_waiter (resource_at st r))
hands_all st j r p some one =
    properly st (Unlock (record { 0 = j }) r) p (λ after. HandedOver st after j r (first_waiter (resource_at st r)))
    (λ way. hands_over st j r some way one)
