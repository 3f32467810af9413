-- Of the small machine: what the other groups do, deleted, leaves a group its answers, the counts of time apart, and its tasks. Assumes nothing.
use mathlib.Core.Path.{◌≡◌, refl, sym, ◌∙◌, ap}
use mathlib.Core.Bool.{true, false, true≢false}
use mathlib.Core.List.{List}
use mathlib.Core.Option.{none, some}
use Prim.Native.Nat.{ℕ, ◌+◌, ◌≤◌}
use native.Mathlib.Omega.{arith}
use lib.Dec.{leb, ltb, eqb}
use borrow.Author.Tests.{eqb-true, eqb-false, leb-false, lt-leb, le-ltb}
use Rattle.laws.specs.Tests.{first_of}
use Rattle.laws.proofs.Cases.{split, holds_fails}
use Rattle.laws.proofs.All.{all_at, all_each}
use Rattle.laws.proofs.Count.{count_mono}
use Rattle.laws.proofs.Lists.{replicate_at}
use Rattle.reordering.specs.Order.{group, sees, view}
use Rattle.reordering.specs.Run.{after, log, entry, Each, told_log}
use Rattle.reordering.specs.Machine.{Deletes}
use Rattle.reordering.proofs.Local.{group_inj, time_group}
use Rattle.reordering.proofs.Delete.{delete}
use Rattle.reordering.proofs.Toy.{Config, Task, State, Event, elapse, dispatch, release, Answer, done, ran, refusal, idle, task, runs, aged, kind, in_use, busy, fits, within, tests, act, verdict, step, Good, Seated, Agree, fresh}
use Rattle.reordering.proofs.ToyLaws.{act_good, act_leaves, act_reads, act_both, runs_local, busy_local, fresh_good}
use Rattle.reordering.proofs.ToySeated.{aged_at, step_seated, fresh_seated}

-- what a group hears: that time passed, or an answer
pub data Told : Type 0 where
  passed : Told
  said : Answer → Told

-- of time that passed only this, of all else the whole answer
abbrev pub told : Event → Answer → Told
told (elapse k) done = said done
told (elapse k) (ran r) = passed
told (elapse k) (refusal r) = said (refusal r)
told (dispatch t) a = said a
told (release t) a = said a

-- what is supposed: no passage of time is refused, and no dispatch of the group for want of a processor
abbrev pub Fine : Event → Answer → Type 0
Fine (elapse k) a = (r : ℕ) → a ≡ refusal r → ⊥
Fine (dispatch t) a = a ≡ refusal 8 → ⊥
Fine (release t) a = Unit {0}

module _ (c : Config) (g : ℕ) where
  open c use {n, processors, group_of}

  -- u is s with the other groups' tasks at rest
  pub record Sim (s u : State) : Type 0 where
    pub agree : Agree c g s u
    pub rest : (i : ℕ) → (group_of i ≡ g → ⊥) → runs u i ≡ false
    pub good : Good c s
    pub good' : Good c u
    pub seated : Seated c s

  -- a task of u is that of s, or is at rest
  by_group : {C : Type 0} (s u : State) → Sim s u → (i : ℕ) → (task s i ≡ task u i → C) → (runs u i ≡ false → C) → C
  by_group s u m i f h = split (eqb (group_of i) g) (λ e. f (m.agree.1 i (eqb-true _ _ e))) (λ e. h (m.rest i (eqb-false _ _ e)))

  -- so that fewer run
  fewer : (s u : State) → Sim s u → in_use c u ≤ in_use c s
  unfolding in_use
  fewer s u m =
      count_mono n (runs u) (runs s)
      (λ i l e. by_group s u m i (λ q. ap (λ (x : Task). x.running) q ∙ e) (λ r. holds_fails e r))

  uncrowded : (s u : State) → Sim s u → ltb processors (in_use c s) ≡ false
  uncrowded s u m = le-ltb processors (in_use c s) m.seated

  uncrowded' : (s u : State) → Sim s u → ltb processors (in_use c u) ≡ false
  uncrowded' s u m = le-ltb processors (in_use c u) (omega (arith, m.seated, fewer s u m))

  -- an event of the group has one verdict
  own_verdict : (s u : State) (e : Event) → kind c e ≡ group g → Sim s u → Fine e (step c s e).0 → verdict c s e ≡ verdict c u e
  unfolding verdict tests first_of
  own_verdict s u (elapse k) p m f = absurd (time_group p)
  own_verdict s u (dispatch t) p m f =
      let q : busy c (group_of t) s ≡ busy c (group_of t) u = busy_local c (group_of t) s u (rw (group_inj p) m.agree) in
      rw
      (uncrowded s u m, uncrowded' s u m, q)
      (split
      (leb n t)
      (λ y. rw y refl)
      (λ a.
      split
      (busy c (group_of t) u)
      (λ y. rw (a, y) refl)
      (λ b.
      split
      (leb processors (in_use c s))
      (λ y.
      let e : verdict c s (dispatch t) ≡ some 8 = rw (uncrowded s u m, a, q, b, y) refl in
      absurd (f (ap (λ v. (act c s (dispatch t) v).0) e)))
      (λ x. rw (a, b, x, lt-leb processors (in_use c u) (omega (arith, leb-false processors (in_use c s) x, fewer s u m))) refl))))
  own_verdict s u (release t) p m f = rw (uncrowded s u m, uncrowded' s u m, runs_local c g s u t (group_inj p) m.agree) refl

  own_answer : (s u : State) (e : Event) → kind c e ≡ group g → Sim s u → Fine e (step c s e).0 → (step c s e).0 ≡ (step c u e).0
  own_answer s u e k m f = ap (λ v. (act c s e v).0) (own_verdict s u e k m f) ∙ act_reads c g s u e (verdict c u e) k

  own_both : (s u : State) (e : Event) → kind c e ≡ group g → Sim s u → Fine e (step c s e).0 → Sim (step c s e).1 (step c u e).1
  own_both s u e k m f =
      record {
        agree = rw (own_verdict s u e k m f) (act_both c g s u e (verdict c u e) k m.good m.good' m.agree);
        rest = λ i x.
            sym (runs_local c (group_of i) u (step c u e).1 i refl (act_leaves c (group_of i) g u e (verdict c u e) k (λ q. x (sym q)))) ∙ m.rest i x;
        good = act_good c s e (verdict c s e) m.good;
        good' = act_good c u e (verdict c u e) m.good';
        seated = step_seated c s e m.good m.seated;
      }

  -- time that passes in s passes in u
  within_both : (s u : State) (k : ℕ) → Sim s u → within c k s ≡ true → within c k u ≡ true
  unfolding within
  within_both s u k m y =
      all_each (λ j. fits c k (task u j)) n (λ i l. by_group s u m i (λ q. ap (fits c k) (sym q) ∙ all_at (λ j. fits c k (task s j)) n i l y) (λ q. rw q refl))

  time_verdicts
      : (s u : State) (k : ℕ)
      → Sim s u
      → Fine (elapse k) (step c s (elapse k)).0
      → (verdict c s (elapse k) ≡ none) × (verdict c u (elapse k) ≡ none)
  unfolding verdict tests first_of
  time_verdicts s u k m f =
      let y : within c k s ≡ true =
      split (within c k s) (λ y. y) (λ x.
      let e : verdict c s (elapse k) ≡ some 12 = rw (uncrowded s u m, x) refl in
      absurd (f 12 (ap (λ v. (act c s (elapse k) v).0) e))) in
      (rw (uncrowded s u m, y) refl, rw (uncrowded' s u m, within_both s u k m y) refl)

  time_told
      : (s u : State) (k : ℕ)
      → Sim s u
      → Fine (elapse k) (step c s (elapse k)).0
      → told (elapse k) (step c s (elapse k)).0 ≡ told (elapse k) (step c u (elapse k)).0
  time_told s u k m f = let v = time_verdicts s u k m f in rw (v.0, v.1) refl

  time_both : (s u : State) (k : ℕ) → Sim s u → Fine (elapse k) (step c s (elapse k)).0 → Sim (step c s (elapse k)).1 (step c u (elapse k)).1
  time_both s u k m f =
      let v = time_verdicts s u k m f in
      record {
        agree =
            rw (v.0, v.1) (
              ap (λ (t : ℕ). t + k) m.agree.0,
              λ i e. aged_at c s k i m.good ∙ ap (aged k) (m.agree.1 i e) ∙ sym (aged_at c u k i m.good'),
            );
        rest = λ i x. rw v.1 (ap (λ (y : Task). y.running) (aged_at c u k i m.good') ∙ m.rest i x);
        good = act_good c s (elapse k) (verdict c s (elapse k)) m.good;
        good' = act_good c u (elapse k) (verdict c u (elapse k)) m.good';
        seated = step_seated c s (elapse k) m.good m.seated;
      }

  -- an event of another group changes nothing that g sees
  other : (s u : State) (e : Event) (h : ℕ) → kind c e ≡ group h → (h ≡ g → ⊥) → Sim s u → Sim (step c s e).1 u
  other s u e h k x m =
      let l : Agree c g s (step c s e).1 = act_leaves c g h s e (verdict c s e) k x in
      record {
        agree = (sym l.0 ∙ m.agree.0, λ i e. sym (l.1 i e) ∙ m.agree.1 i e);
        rest = m.rest;
        good = act_good c s e (verdict c s e) m.good;
        good' = m.good';
        seated = step_seated c s e m.good m.seated;
      }

  answer : (s u : State) (e : Event) → sees g (kind c e) ≡ true → Sim s u → Fine e (step c s e).0 → told e (step c s e).0 ≡ told e (step c u e).0
  answer s u (elapse k) y m f = time_told s u k m f
  answer s u (dispatch t) y m f = ap said (own_answer s u (dispatch t) (ap group (eqb-true (group_of t) g y)) m f)
  answer s u (release t) y m f = ap said (own_answer s u (release t) (ap group (eqb-true (group_of t) g y)) m f)

  both : (s u : State) (e : Event) → sees g (kind c e) ≡ true → Sim s u → Fine e (step c s e).0 → Sim (step c s e).1 (step c u e).1
  both s u (elapse k) y m f = time_both s u k m f
  both s u (dispatch t) y m f = own_both s u (dispatch t) (ap group (eqb-true (group_of t) g y)) m f
  both s u (release t) y m f = own_both s u (release t) (ap group (eqb-true (group_of t) g y)) m f

  alone : (s u : State) (e : Event) → sees g (kind c e) ≡ false → Sim s u → Sim (step c s e).1 u
  alone s u (elapse k) y m = absurd (true≢false y)
  alone s u (dispatch t) y m = other s u (dispatch t) (group_of t) refl (eqb-false (group_of t) g y) m
  alone s u (release t) y m = other s u (release t) (group_of t) refl (eqb-false (group_of t) g y) m

  deletes : Deletes (kind c) (step c) told Fine g Sim
  deletes = record { answer = answer; both = both; alone = alone }

  start : Sim (fresh c) (fresh c)
  unfolding fresh
  start =
      record {
        agree = (refl, λ i e. refl);
        rest = λ i x. ap (λ (y : Task). y.running) (replicate_at n i idle);
        good = fresh_good c;
        good' = fresh_good c;
        seated = fresh_seated c;
      }

  -- the deletion theorem, of this machine
  pub toy_delete
      : (xs : List Event)
      → Each Fine (view (entry (kind c)) g (log (step c) (fresh c) xs))
      → (told_log told (view (entry (kind c)) g (log (step c) (fresh c) xs)) ≡ told_log told (log (step c) (fresh c) (view (kind c) g xs))) ×
      Agree c g (after (step c) (fresh c) xs) (after (step c) (fresh c) (view (kind c) g xs))
  toy_delete xs f = let r = delete deletes (fresh c) (fresh c) start xs f in (r.0, r.1.agree)
