-- Of the small machine: from fresh at most as many tasks run as there are processors, so that refusal 1 never comes. Assumes nothing.
use mathlib.Core.Path.{◌≡◌, refl, sym, ◌∙◌, ap}
use mathlib.Core.Bool.{Bool, true, false}
use mathlib.Core.List.Memᴰ
use mathlib.Core.List.{List, [], ◌∷◌}
use mathlib.Core.Option.{Option, none, some}
use Prim.Native.Nat.{ℕ, ◌+◌, ◌<◌, ◌≤◌}
use native.Mathlib.Omega.{arith}
use lib.Dec.{leb, ltb}
use lib.ListN.{get_or-eq_default}
use lib.Seq.{get_or-set_other, get_or-set_same, set_out}
use borrow.Author.Tests.{leb-false, le-ltb, ltb-true, ltb-false}
use Rattle.laws.specs.Tests.{bit, first_of, without}
use Rattle.laws.proofs.Cases.{split, first_no, first_none, without_never}
use Rattle.laws.proofs.Count.{count_ext, count_zero, count_but_one}
use Rattle.laws.proofs.Lists.{replicate_at}
use Rattle.laws.proofs.Set.{set_at_lem, set_past}
use Rattle.reordering.specs.Run.{log, Each}
use Rattle.reordering.proofs.Toy.{Config, Task, State, Event, elapse, dispatch, release, refusal, Unrefused, idle, task, runs, put, aged, in_use, tests, changed, act, verdict, step, Good, Seated, fresh}
use Rattle.reordering.proofs.ToyLaws.{act_good, fresh_good}

module _ (c : Config) where
  open c use {n, processors}

  -- time makes each task older, and the places past the tasks stay as they are
  pub aged_at : (s : State) (k i : ℕ) → Good c s → task (changed c s (elapse k)) i ≡ aged k (task s i)
  aged_at s k i h =
      split
      (ltb i n)
      (λ e. let l : i < n = ltb-true i n e in set_at_lem n i (λ j. aged k (task s j)) s.tasks idle l (omega arith))
      (λ e.
      let l : n ≤ i = ltb-false i n e in
      let d : task s i ≡ idle = get_or-eq_default s.tasks idle (omega arith) in
      set_past n i (λ j. aged k (task s j)) s.tasks idle l ∙ d ∙ sym (ap (aged k) d))

  aged_count : (s : State) (k : ℕ) → Good c s → in_use c (changed c s (elapse k)) ≡ in_use c s
  unfolding in_use
  aged_count s k h = count_ext n (runs (changed c s (elapse k))) (runs s) (λ i l. ap (λ (x : Task). x.running) (aged_at s k i h))

  -- a task that is made to run is one more at most, and one that is stopped is none
  put_count : (s : State) (t : ℕ) (b : Bool) → Good c s → in_use c (put s t b) ≤ in_use c s + bit b
  unfolding in_use
  put_count s t b h =
      split
      (ltb t n)
      (λ e.
      let l : t < n = ltb-true t n e in
      let p : bit (runs (put s t b) t) ≡ bit b = ap (λ (x : Task). bit x.running) (get_or-set_same s.tasks t _ idle (omega arith)) in
      omega (arith, count_but_one n t (runs s) (runs (put s t b)) l (λ j m x. sym (ap (λ (x : Task). x.running) (get_or-set_other s.tasks t j _ idle x)))))
      (λ e. rw (set_out s.tasks t _ (omega (arith, ltb-false t n e))) (omega arith))

  -- an accepted dispatch found a processor
  found : (s : State) (t : ℕ) → verdict c s (dispatch t) ≡ none → in_use c s < processors
  unfolding verdict tests
  found s t q =
      leb-false processors (in_use c s)
      (first_none _ q (8, leb processors (in_use c s)) (Memᴰ.tail (Memᴰ.tail (Memᴰ.tail (Memᴰ.head refl)))))

  act_seated : (s : State) (e : Event) (v : Option ℕ) → verdict c s e ≡ v → Good c s → Seated c s → Seated c (act c s e v).1
  act_seated s e (some r) q g h = h
  act_seated s (elapse k) none q g h = rw (aged_count s k g) h
  act_seated s (dispatch t) none q g h = omega (arith, put_count s t true g, found s t q)
  act_seated s (release t) none q g h = omega (arith, put_count s t false g)

  pub step_seated : (s : State) (e : Event) → Good c s → Seated c s → Seated c (step c s e).1
  step_seated s e g h = act_seated s e (verdict c s e) refl g h

  -- no other test has the number 1
  tests_not_one : (s : State) (e : Event) → first_of (tests c s e) ≡ some 1 → ⊥
  unfolding tests without
  tests_not_one s (elapse k) q = without_never 1 (tests c s (elapse k)) q
  tests_not_one s (dispatch t) q = without_never 1 (tests c s (dispatch t)) q
  tests_not_one s (release t) q = without_never 1 (tests c s (release t)) q

  -- a refusal is the verdict's
  act_refusal : (s : State) (e : Event) (v : Option ℕ) (r : ℕ) → (act c s e v).0 ≡ refusal r → v ≡ some r
  act_refusal s e (some k) r q = let p : k ≡ r = cc in ap some p
  act_refusal s (elapse k) none r q = absurd (let z : ◌≡◌ {A = ℕ} 0 1 = cc in omega arith)
  act_refusal s (dispatch t) none r q = absurd (let z : ◌≡◌ {A = ℕ} 0 1 = cc in omega arith)
  act_refusal s (release t) none r q = absurd (let z : ◌≡◌ {A = ℕ} 0 1 = cc in omega arith)

  step_not_one : (s : State) (e : Event) → Seated c s → (step c s e).0 ≡ refusal 1 → ⊥
  unfolding verdict
  step_not_one s e h q =
      tests_not_one s e
      (sym (first_no 1 (ltb processors (in_use c s)) (tests c s e) (le-ltb processors (in_use c s) h)) ∙ act_refusal s e (verdict c s e) 1 q)

  pub fresh_seated : Seated c (fresh c)
  unfolding fresh in_use
  fresh_seated = omega (arith, count_zero n (runs (fresh c)) (λ i l. ap (λ (x : Task). x.running) (replicate_at n i idle)))

  never : (s : State) → Good c s → Seated c s → (xs : List Event) → Unrefused 1 (log (step c) s xs)
  unfolding log Each
  never s g h [] = tt
  never s g h (e ∷ es) = (step_not_one s e h, never (step c s e).1 (act_good c s e (verdict c s e) g) (step_seated s e g h) es)

  -- from fresh, refusal 1 never comes
  pub never_one : (xs : List Event) → Unrefused 1 (log (step c) (fresh c) xs)
  never_one = never (fresh c) (fresh_good c) fresh_seated
