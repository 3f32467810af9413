-- Whom a server serves, by links: a chain that comes to its end comes there in no link or in some. So Λ of a task that is not blocked is its own
-- server and those of the tasks that it blocks. Assumes nothing.
use Rattle.theory.proofs.Kit.{◌≡◌, refl, sym, ap, ◌∙◌, true, ◌⊎◌, inl, inr, ⊎_elim, ℕ, zero, suc, ◌<◌, ◌≤◌, ltb, ltb-true, ltb-false}
use Rattle.laws.specs.Links.{walk, Leads}
use Rattle.laws.proofs.Cases.{split, holds_fails}
use Rattle.laws.proofs.Pigeonhole.{walk_ended, walk_linked, leads_walk}
use Rattle.theory.proofs.Declared.{Idle, State}
use Rattle.model.specs.State.{places, server_at, task_at, here, idle, recharging, suspended, next, served}
use Rattle.model.specs.Sound.{sound}
use Rattle.model.proofs.Chain.{here_below, served_walk, end_itself}
use Rattle.model.proofs.Sound.{sound_facts}
use Rattle.theory.specs.Rules.{Inherits, Blocked}
use Rattle.laws.proofs.Ends.{end_reached}

module _ (n : ℕ) (next : ℕ → ℕ) where
  -- k hops come to x itself, or to where some links lead
  walk_led : (k x : ℕ) → (walk n next k x ≡ x) ⊎ ((m : ℕ) × Leads n next (suc m) x (walk n next k x))
  unfolding walk Leads
  walk_led zero x = inl refl
  walk_led (suc k) x =
      split
      (ltb (next x) n)
      (λ y.
      let l : next x < n = ltb-true _ _ y in
      ⊎_elim
      (λ e. inr (0, (l, sym (walk_linked n next k x l ∙ e))))
      (λ r. inr (suc r.0, (l, rw (walk_linked n next k x l) r.1)))
      (walk_led k (next x)))
      (λ m. inl (walk_ended n next (suc k) x (ltb-false _ _ m)))

module _ (st : State) where
  pub served_leads : (k : ℕ) → (k ≡ served st k) ⊎ ((m : ℕ) × Leads places (next st) (suc m) k (served st k))
  served_leads k =
      rw (served_walk st k) (⊎_elim (λ e. inl (sym e)) (λ r. inr r) (walk_led places (next st) places k))

  leads_served : (m k j : ℕ) → here st k ≡ true → places ≤ next st j → Leads places (next st) m k j → served st k ≡ j
  leads_served m k j u d l = served_walk st k ∙ end_reached places (next st) m k j (here_below st k u) (leads_walk places (next st) m k j l) d

  pub lambda
      : (j k : ℕ) → here st k ≡ true → places ≤ next st j
      → (Inherits st j k → (k ≡ j) ⊎ Blocked st k j) × ((k ≡ j) ⊎ Blocked st k j → Inherits st j k)
  lambda j k u d = (
    λ i. ⊎_elim (λ e. inl (e ∙ i.1)) (λ r. inr (record { links = r.0; way = rw (← i.1) r.1 })) (served_leads k),
    λ c. (u, ⊎_elim (λ e. rw e (end_itself st j d)) (λ b. leads_served (suc b.links) k j u d b.way) c),
  )

  -- a sound state's server has one task to serve that is not blocked, and is Idle only behind one that sleeps
  pub one_to_serve
      : sound st ≡ true → (s : ℕ) → here st s ≡ true
      → (places ≤ next st (served st s)) × ((server_at st s).phase ≡ Idle → suspended (task_at st (served st s)).mode ≡ true)
  one_to_serve is s h =
      let f = ((sound_facts st).holds is).is_loose in
      (f.opens s h, λ i. ⊎_elim (λ r. holds_fails r (ap recharging i)) (λ k. k.0 (ap idle i)) (f.idles s h))
