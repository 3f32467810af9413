-- The small machine meets the laws of reordering. Assumes nothing.
use mathlib.Core.Path.{◌≡◌, refl, sym, ◌∙◌, ap}
use mathlib.Core.Bool.{Bool, true, false, true≢false}
use mathlib.Core.Option.{Option, none, some}
use Prim.Native.Nat.{ℕ}
use lib.Dec.{ltb, eqb}
use lib.ListN.{length-set, length-replicate}
use lib.Seq.{ext_get_or, get_or-set_other}
use borrow.Author.Tests.{eqb-true}
use Rattle.laws.specs.Tests.{first_of, without}
use Rattle.laws.proofs.Cases.{split, first_rest, first_without}
use Rattle.laws.proofs.Count.{count_ext}
use Rattle.laws.proofs.Lists.{set_both}
use Rattle.laws.proofs.Set.{length_set_to}
use Rattle.reordering.specs.Order.{group}
use Rattle.reordering.specs.Machine.{Laws, Local}
use Rattle.reordering.proofs.Local.{group_inj, time_group, commute}
use Rattle.reordering.proofs.Toy.{Config, Task, State, Event, elapse, dispatch, release, idle, runs, put, for_processors_lem, kind, in_use, runs_in, busy, tests, changed, act, verdict, step, freed, free, Good, Agree, fresh}

module _ (c : Config) where
  open c use {n, processors, group_of}

  -- an event, refused or not, keeps the length
  changed_good : (s : State) (e : Event) → Good c s → Good c (changed c s e)
  changed_good s (elapse k) h = length_set_to n _ s.tasks ∙ h
  changed_good s (dispatch t) h = length-set s.tasks t _ ∙ h
  changed_good s (release t) h = length-set s.tasks t _ ∙ h

  pub act_good : (s : State) (e : Event) (v : Option ℕ) → Good c s → Good c (act c s e v).1
  act_good s e none h = changed_good s e h
  act_good s e (some r) h = h

  -- leaves the other groups' tasks
  put_leaves : (g : ℕ) (s : State) (t : ℕ) (b : Bool) → (group_of t ≡ g → ⊥) → Agree c g s (put s t b)
  put_leaves g s t b x = (refl, λ i e. sym (get_or-set_other s.tasks t i _ idle (λ q. x (ap group_of (sym q) ∙ e))))

  changed_leaves : (g h : ℕ) (s : State) (e : Event) → kind c e ≡ group h → (h ≡ g → ⊥) → Agree c g s (changed c s e)
  changed_leaves g h s (elapse k) p x = absurd (time_group p)
  changed_leaves g h s (dispatch t) p x = put_leaves g s t true (λ q. x (sym (group_inj p) ∙ q))
  changed_leaves g h s (release t) p x = put_leaves g s t false (λ q. x (sym (group_inj p) ∙ q))

  pub act_leaves : (g h : ℕ) (s : State) (e : Event) (v : Option ℕ) → kind c e ≡ group h → (h ≡ g → ⊥) → Agree c g s (act c s e v).1
  act_leaves g h s e none p x = changed_leaves g h s e p x
  act_leaves g h s e (some r) p x = (refl, λ i e. refl)

  -- is answered one way in states on which its group agrees
  pub act_reads : (g : ℕ) (s u : State) (e : Event) (v : Option ℕ) → kind c e ≡ group g → (act c s e v).0 ≡ (act c u e v).0
  act_reads g s u (elapse k) v p = absurd (time_group p)
  act_reads g s u (dispatch t) none p = refl
  act_reads g s u (dispatch t) (some r) p = refl
  act_reads g s u (release t) none p = refl
  act_reads g s u (release t) (some r) p = refl

  -- and has one effect on what the group agrees on
  put_both : (g : ℕ) (s u : State) (t : ℕ) (b : Bool) → group_of t ≡ g → Good c s → Good c u → Agree c g s u → Agree c g (put s t b) (put u t b)
  put_both g s u t b p k l h = (h.0, λ i e. rw (h.1 t p) (set_both s.tasks u.tasks t i _ idle (k ∙ sym l) (h.1 i e)))

  changed_both : (g : ℕ) (s u : State) (e : Event) → kind c e ≡ group g → Good c s → Good c u → Agree c g s u → Agree c g (changed c s e) (changed c u e)
  changed_both g s u (elapse k) p a b h = absurd (time_group p)
  changed_both g s u (dispatch t) p a b h = put_both g s u t true (group_inj p) a b h
  changed_both g s u (release t) p a b h = put_both g s u t false (group_inj p) a b h

  pub act_both
      : (g : ℕ) (s u : State) (e : Event) (v : Option ℕ)
      → kind c e ≡ group g → Good c s → Good c u → Agree c g s u → Agree c g (act c s e v).1 (act c u e v).1
  act_both g s u e none p a b h = changed_both g s u e p a b h
  act_both g s u e (some r) p a b h = h

  pub runs_local : (g : ℕ) (s u : State) (t : ℕ) → group_of t ≡ g → Agree c g s u → runs s t ≡ runs u t
  runs_local g s u t p h = ap (λ (x : Task). x.running) (h.1 t p)

  -- whether a task of the group runs depends on the group's tasks only
  pub busy_local : (g : ℕ) (s u : State) → Agree c g s u → busy c g s ≡ busy c g u
  unfolding busy
  busy_local g s u h =
      ap (ltb 0)
      (count_ext n (runs_in c g s) (runs_in c g u)
      (λ i l. split (eqb (group_of i) g) (λ e. rw e (runs_local g s u i (eqb-true _ _ e) h)) (λ e. rw e)))

  -- the free tests depend on the group's tasks only
  freed_local : (g : ℕ) (s u : State) (e : Event) → kind c e ≡ group g → Agree c g s u → freed c s e ≡ freed c u e
  unfolding freed first_of without tests
  freed_local g s u (elapse k) p h = absurd (time_group p)
  freed_local g s u (dispatch t) p h = rw (group_inj p, busy_local g s u h) refl
  freed_local g s u (release t) p h = rw (runs_local g s u t (group_inj p) h) refl

  reads : (g : ℕ) (s u : State) (e : Event) → kind c e ≡ group g → Good c s → Good c u → Agree c g s u → (free c s e).0 ≡ (free c u e).0
  reads g s u e p a b h = ap (λ v. (act c s e v).0) (freed_local g s u e p h) ∙ act_reads g s u e (freed c u e) p

  writes : (g : ℕ) (s u : State) (e : Event) → kind c e ≡ group g → Good c s → Good c u → Agree c g s u → Agree c g (free c s e).1 (free c u e).1
  writes g s u e p a b h = rw (freed_local g s u e p h) (act_both g s u e (freed c u e) p a b h)

  free_keeps : (s : State) (e : Event) → Good c s → Good c (free c s e).1
  free_keeps s e h = act_good s e (freed c s e) h

  leaves : (g h : ℕ) (s : State) (e : Event) → kind c e ≡ group h → (h ≡ g → ⊥) → Good c s → Agree c g s (free c s e).1
  leaves g h s e p x a = act_leaves g h s e (freed c s e) p x

  -- states on which all groups agree are equal
  whole : (s u : State) → Good c s → Good c u → ((g : ℕ) → Agree c g s u) → s ≡ u
  whole s u a b h =
      let q : s.tasks ≡ u.tasks = ext_get_or idle s.tasks u.tasks (a ∙ sym b) (λ i l. (h (group_of i)).1 i refl) in
      λ i. record { clock = (h 0).0 i; tasks = q i }

  free_local : Local (kind c) (free c) (Good c) (Agree c)
  free_local =
      record {
        agree_sym = λ g s u h. (sym h.0, λ i e. sym (h.1 i e));
        agree_trans = λ g s u v h k. (h.0 ∙ k.0, λ i e. h.1 i e ∙ k.1 i e);
        whole = whole;
        keeps = free_keeps;
        reads = reads;
        writes = writes;
        leaves = leaves;
      }

  -- what is refused neither 1 nor 8 is free
  unlike : (s : State) (e : Event) → Good c s → for_processors_lem (step c s e).0 ≡ false → step c s e ≡ free c s e
  unfolding verdict freed
  unlike s e h p =
      let one : verdict c s e ≡ some 1 → ⊥ = λ q. true≢false (rw q at p) in
      let eight : verdict c s e ≡ some 8 → ⊥ = λ q. true≢false (rw q at p) in
      let r : verdict c s e ≡ first_of (tests c s e) = first_rest 1 (ltb processors (in_use c s)) (tests c s e) one in
      ap (act c s e) (r ∙ sym (first_without 8 (tests c s e) (λ q. eight (r ∙ q))))

  pub laws : Laws (kind c) (step c) (free c) for_processors_lem (Good c)
  laws = record { keeps = free_keeps; unlike = unlike; commute = commute free_local }

  pub fresh_good : Good c (fresh c)
  unfolding fresh
  fresh_good = length-replicate n idle
