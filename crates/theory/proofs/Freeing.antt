-- A grant and a release with nobody waiting: nothing but the resource and the stack changes. Assumes nothing.
use Rattle.std.specs.Prelude.{if◌then◌else◌}
use Rattle.theory.proofs.Kit.{◌≡◌, refl, ap, ◌∙◌, true, false, ℕ, eqb, eq-eqb, ne_eqb}
use Rattle.theory.proofs.Declared.{None, Some, Server, Task, Resource, State, Event, Lock, Unlock}
use Rattle.model.specs.State.{task_at, resource_at, here, present, running, owned}
use Rattle.model.specs.Events.{pushed, popped, with_owner, granted, locked, freed, unlocked, changed}
use Rattle.model.specs.Step.{state_after, stepped}
use Rattle.theory.specs.Rules.{Proper, Rest, EndsStay, ExecutorsStay, TaskIs, Only, Nothing, Granted, Freed}
use Rattle.theory.proofs.StacksAndQueues.{touched, touched_shows, touched_reads}
use Rattle.theory.proofs.Executing.{Way}
use Rattle.theory.proofs.Steps.{Quiet, properly, after_server, after_resource, task_is, rest_by, ends_stay, executors_stay}

-- an event that stores task t and resource r, and after which nobody waits who did not
stored
    : (st : State) (e : Event) (w : Way st e) (t r : ℕ) (k : Task) (x : Resource) → changed st e ≡ touched st t r k x → here st t ≡ true
    → present st r ≡ true → Quiet st e
    → Rest st (state_after st e) st.clock Nothing (Only t) (Only r) × (resource_at (state_after st e) r ≡ x) × TaskIs (state_after st e) t k ×
    EndsStay st (state_after st e) × ExecutorsStay st (state_after st e) Nothing
stored st e w t r k x is used known quiet =
    let tasks : (i : ℕ) → task_at (changed st e) i ≡ (if eqb i t then k else task_at st i) =
    λ i. ap (λ z. task_at z i) is ∙ touched_shows st w.shaped t r used known k x (λ z. z) i in
    let resources : (q : ℕ) → resource_at (changed st e) q ≡ (if eqb q r then x else resource_at st q) =
    λ q. ap (λ z. resource_at z q) is ∙ touched_reads st w.shaped t r used known k x (λ z. z) q in (
      rest_by st e w st.clock Nothing (Only t) (Only r) (rw is) (λ s u n. rw is) (λ i u n. tasks i ∙ rw (ne_eqb i t n))
          (λ q u n. resources q ∙ rw (ne_eqb q r n)),
      after_resource st e r ∙ resources r ∙ rw (eq-eqb r r refl),
      task_is st e w t used k (tasks t ∙ rw (eq-eqb t t refl)),
      ends_stay st e w quiet,
      executors_stay st e w quiet (λ s u. ap (λ (z : Server). running z.phase) (after_server st e s) ∙ rw is),
    )

grants
    : (st : State) (t r : ℕ) → owned (resource_at st r).owner ≡ false → (w : Way st (Lock (record { 0 = t }) r))
    → Granted st (state_after st (Lock (record { 0 = t }) r)) t r
unfolding locked granted
grants st t r free w =
    let p = stored st (Lock (record { 0 = t }) r) w t r (pushed r (task_at st t)) (with_owner (Some (record { 0 = t })) (resource_at st r)) (rw free)
    w.ground.0 w.ground.1 free in
    record { rest = p.0; owner = p.1; stack = p.2; ends = p.3; executors = p.4 }

frees
    : (st : State) (t r : ℕ) → (resource_at st r).waiting ≡ 0 → (w : Way st (Unlock (record { 0 = t }) r))
    → Freed st (state_after st (Unlock (record { 0 = t }) r)) t r
unfolding unlocked freed
frees st t r empty w =
    let p = stored st (Unlock (record { 0 = t }) r) w t r (popped (task_at st t)) (with_owner None (resource_at st r)) (rw (eq-eqb _ 0 empty))
    w.ground.0 w.ground.1 empty in
    record { rest = p.0; owner = p.1; stack = p.2; ends = p.3; executors = p.4 }

pub grants_free
    : (st : State) (t r : ℕ) → Proper st (Lock (record { 0 = t }) r) → owned (resource_at st r).owner ≡ false
    → Granted st (stepped st (Lock (record { 0 = t }) r)).state t r
grants_free st t r p free = properly st (Lock (record { 0 = t }) r) p (λ after. Granted st after t r) (grants st t r free)

pub frees_last
    : (st : State) (j r : ℕ) → Proper st (Unlock (record { 0 = j }) r) → (resource_at st r).waiting ≡ 0
    → Freed st (stepped st (Unlock (record { 0 = j }) r)).state j r
frees_last st j r p empty = properly st (Unlock (record { 0 = j }) r) p (λ after. Freed st after j r) (frees st j r empty)
