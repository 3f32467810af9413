-- Processors: a server that runs after an event's change ran before it or is the one that the event dispatches (`ran_by`, from what an event can make
-- of a server, Frames.antt). So the layer chooses nobody (`dispatch_only`), and no more servers are Running than there are processors (`seated_after`):
-- only a dispatch adds one, and it is refused where all are taken. Rule H changes no phase. Assumes nothing.
use Rattle.std.specs.Prelude.{if◌then◌else◌}
use Rattle.theory.proofs.Kit.{◌≡◌, refl, sym, ap, ◌∙◌, Bool, true, false, ◌&&◌, ◌⊎◌, inl, inr, ⊎_elim, none, ℕ, ◌<◌, ◌≤◌, arith, get_or-set_other, leb-false}
use Rattle.laws.specs.Tests.{first_of}
use Rattle.laws.specs.Loops.{count_to}
use Rattle.laws.proofs.Cases.{holds_fails, and_left, and_right, and_both, none_fails, none_later}
use Rattle.laws.proofs.Count.{bit_le, count_ext, count_mono, count_but_one}
use Rattle.theory.proofs.Declared.{Phase, Running, Recharging, ServerNo, Server, State, Event, Wake, Suspend, Dispatch, Preempt, Elapse, Recharge, Lock, Unlock}
use Rattle.model.specs.State.{places, no_server, server_at, here, running, running_at}
use Rattle.model.specs.RuleH.{settled}
use Rattle.model.specs.Events.{with_phase, phased, runs_out, spent_server, changed, acting}
use Rattle.model.specs.Step.{crowded, tests, state_after, stepped}
use Rattle.model.proofs.Chain.{here_below}
use Rattle.model.proofs.Sound.{Seated}
use Rattle.model.proofs.RuleH.{settled_running}
use Rattle.model.proofs.Grounds.{Grounds}
use Rattle.theory.proofs.Frames.{heads_here, heads_kept, ServerMade, in_phase, refills, spends, server_after}
use Rattle.theory.proofs.Outcomes.{stepped_has}

still_running : (b : Bool) (p q : Phase) → running p ≡ false → running (if b then p else q) ≡ true → running q ≡ true
still_running true p q n h = holds_fails h n
still_running false p q n h = h

module _ (st : State) (e : Event) where
  ran : (s : ℕ) {x : Server} → ServerMade st e s x → running x.phase ≡ true → (running (server_at st s).phase ≡ true) ⊎ (e ≡ Dispatch (record { 0 = s }))
  unfolding spent_server
  ran s (in_phase p q d) h = inr (d (ap (λ z. running z.phase) (sym q) ∙ h))
  ran s (refills p q n) h = holds_fails (ap (λ z. running z.phase) (sym q) ∙ h) n
  ran s (spends n q d) h = inl (still_running (runs_out st n s) Recharging (server_at st s).phase refl (ap (λ z. running z.phase) (sym q) ∙ h))

  ran_by : (s : ℕ) → running_at (changed st e) s ≡ true → (running_at st s ≡ true) ⊎ (e ≡ Dispatch (record { 0 = s }))
  unfolding running_at
  ran_by s h =
      let counts = heads_kept st e in
      let used = sym (heads_here (changed st e) st counts.1 counts.2 s) ∙ and_left (here (changed st e) s) _ h in
      let now = and_right (here (changed st e) s) _ h in
      ⊎_elim
      (λ q. inl (and_both (here st s) _ used (ap (λ z. running z.phase) (sym q) ∙ now)))
      (λ k. ⊎_elim (λ r. inl (and_both (here st s) _ used r)) (λ q. inr q) (ran s k.1 now))
      (server_after st e s)

pub dispatch_only
    : (st : State) (e : Event) (s : ℕ) →
    running_at st s ≡ false → running_at (stepped st e).state s ≡ true → e ≡ Dispatch (record { 0 = s })
unfolding state_after
dispatch_only st e s before =
    stepped_has (λ x. running_at x s ≡ true → e ≡ Dispatch (record { 0 = s })) st e (λ h. holds_fails h before)
    (λ y n h.
    ⊎_elim (λ r. holds_fails r before) (λ q. q) (ran_by st e s (sym (settled_running st (changed st e) (acting st e) s) ∙ h)))

module _ (st : State) (seated : Seated st) where
  abbrev Seats : Event → Type 0
  Seats e = count_to places (running_at (changed st e)) ≤ st.processors

  no_more : (e : Event) → ((s : ServerNo) → e ≡ Dispatch s → ⊥) → Seats e
  no_more e other =
      omega (
        arith,
        count_mono places (running_at (changed st e)) (running_at st) (λ s l h. ⊎_elim (λ r. r) (λ q. absurd (other _ q)) (ran_by st e s h)),
      )

  one_more : (s : ServerNo) → here st s.0 ≡ true → crowded st ≡ false → Seats (Dispatch s)
  unfolding phased running_at here crowded
  one_more s used room =
      let k = count_but_one places s.0 (running_at (phased Running st s.0)) (running_at st) (here_below st s.0 used)
      (λ j l n.
      ap (λ (y : Server). here st j && running y.phase) (get_or-set_other st.server s.0 j (with_phase Running (server_at st s.0)) no_server n)) in
      let free : count_to places (running_at st) < st.processors = leb-false st.processors (count_to places (running_at st)) room in
      omega (arith, k, free, bit_le (running_at (phased Running st s.0) s.0))

  changed_seats : (e : Event) → Grounds st e → first_of (tests st e) ≡ none → Seats e
  changed_seats (Wake t) g h = no_more (Wake t) (λ s q. let z : ◌≡◌ {A = ℕ} 0 1 = cc in omega arith)
  changed_seats (Suspend t) g h = no_more (Suspend t) (λ s q. let z : ◌≡◌ {A = ℕ} 0 1 = cc in omega arith)
  changed_seats (Dispatch s) g h = one_more s g.0 (none_fails _ _ _ (none_later _ _ _ (none_later _ _ _ h)))
  changed_seats (Preempt s) g h = no_more (Preempt s) (λ s q. let z : ◌≡◌ {A = ℕ} 0 1 = cc in omega arith)
  changed_seats (Elapse n) g h = no_more (Elapse n) (λ s q. let z : ◌≡◌ {A = ℕ} 0 1 = cc in omega arith)
  changed_seats (Recharge s) g h = no_more (Recharge s) (λ s q. let z : ◌≡◌ {A = ℕ} 0 1 = cc in omega arith)
  changed_seats (Lock t r) g h = no_more (Lock t r) (λ s q. let z : ◌≡◌ {A = ℕ} 0 1 = cc in omega arith)
  changed_seats (Unlock t r) g h = no_more (Unlock t r) (λ s q. let z : ◌≡◌ {A = ℕ} 0 1 = cc in omega arith)

-- what every test passes keeps the clause on processors
pub seated_after : (st : State) (e : Event) → Seated st → Grounds st e → first_of (tests st e) ≡ none → Seated (state_after st e)
unfolding state_after settled
seated_after st e seated g h =
    omega (
      arith,
      (heads_kept st e).0,
      changed_seats st seated e g h,
      count_ext places (running_at (settled st (acting st e) (changed st e))) (running_at (changed st e)) (λ s l. settled_running st (changed st e) (acting st e) s),
    )
