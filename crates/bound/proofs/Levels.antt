-- Laws of `level`: it depends on `left` no further than there are tasks outside B. Assumes an accepted table, and sets of tasks that are 6 long.
use mathlib.Core.Path.{◌≡◌, refl, sym, ap, ◌∙◌, fun_ext}
use mathlib.Core.Bool.{Bool, true, false, not, ◌&&◌, and-false}
use Prim.Native.Nat.{ℕ, zero, suc, ◌+◌, ◌<◌, ◌≤◌}
use native.Mathlib.Omega.{arith}
use lib.Dec.{ltb, eqb}
use lib.ListN.{length, length-set}
use lib.Seq.{get_or-set_same, get_or-set_other}
use borrow.Author.Tests.{ltb-true, lt-ltb, eqb-true}
use Rattle.laws.specs.Tests.{bit}
use Rattle.laws.specs.Loops.{count_to}
use Rattle.laws.proofs.Cases.{split, holds_fails, and_left, and_right, and_both}
use Rattle.laws.proofs.Count.{count_mono, count_but_one}
use Rattle.laws.proofs.Fold.{fold_keeps}
use Rattle.laws.proofs.Lists.{get_d_set, replicate_at}
use Rattle.std.specs.Prelude.{Some}
use Rattle.bound.specs.declared.Sections.{Sections}
use Rattle.bound.specs.Sets.{Tasks, Resources, no_task, has, with, joined, meets}
use Rattle.bound.specs.Table.{Parent, section_at, outer}
use Rattle.bound.specs.Interference.{Calculation, weighing_if, weighing, blocker, blockers, ordering, sums, level}
use Rattle.bound.proofs.Accepted.{Accepted}
use Rattle.bound.proofs.Gathered.{enough}
use Rattle.bound.proofs.Orders.{remain, order_none, order_same, order_more}
use Rattle.bound.proofs.Depths.{sums_none}

unfoldable pub is_outside : Sections → Tasks → ℕ → Bool
is_outside s b x = ltb x s.tasks && not (has b x)

-- how many tasks of the table are outside B
abbrev pub outside : Sections → Tasks → ℕ
outside s b = count_to 6 (is_outside s b)

-- a task that joins B is outside it no more
pub outside_with : (s : Sections) (b : Tasks) (x : ℕ) → length b ≡ 6 → x < 6 → is_outside s b x ≡ true → outside s (with b x) + 1 ≡ outside s b
unfolding is_outside
outside_with s b x six l e =
    let gone : bit (is_outside s (with b x) x) ≡ 0 = rw (get_or-set_same b x true false (omega arith), and-false) in
    omega (arith, ap bit e, count_but_one 6 x (is_outside s (with b x)) (is_outside s b) l (λ j m d. rw (get_or-set_other b x j true false d)))

module _ (s : Sections) (good : Accepted s) where
  pub outside_six : (b : Tasks) (x : ℕ) → is_outside s b x ≡ true → x < 6
  unfolding is_outside
  outside_six b x e = omega (arith, ltb-true x s.tasks (and_left _ (not (has b x)) e), good.tasks_most)

  -- the blockers found so far
  record Found (b found : Tasks) : Type 0 where
    six : length found ≡ 6
    each : (x : ℕ) → has found x ≡ true → is_outside s b x ≡ true

  found_turn : (q : ℕ) (b : Tasks) (i : ℕ) → i < s.count → (found : Tasks) → Found b found → Found b (blocker s q b i found)
  unfolding blocker is_outside
  found_turn q b i l found f =
      split
      (eqb (section_at s i).resource q && not (has b (section_at s i).task.0))
      (λ y.
      rw y (record {
        six = length-set found _ true ∙ f.six;
        each = λ x e.
            split
            (eqb x (section_at s i).task.0)
            (λ k. rw (eqb-true x (section_at s i).task.0 k) (and_both _ _ (lt-ltb _ _ (good.task_there i l)) (and_right (eqb (section_at s i).resource q) _ y)))
            (λ k. f.each x (sym (get_d_set found (section_at s i).task.0 x true false (omega (arith, good.task_there i l)) ∙ rw k) ∙ e));
      }))
      (λ n. rw n f)

  blockers_found : (q : ℕ) (b : Tasks) → Found b (blockers s q b)
  unfolding blockers
  blockers_found q b =
      fold_keeps (Found b) (blocker s q b) s.count (found_turn q b) no_task
      (record { six = refl; each = λ x e. holds_fails e (replicate_at 6 x false) })

  pub blockers_six : (q : ℕ) (b : Tasks) → length (blockers s q b) ≡ 6
  blockers_six q b = (blockers_found q b).six

  pub blockers_most : (q : ℕ) (b : Tasks) → remain (blockers s q b) ≤ outside s b
  blockers_most q b = count_mono 6 (has (blockers s q b)) (is_outside s b) (λ x l. (blockers_found q b).each x)

  -- a section weighs the same by calculations that agree once its task has joined B
  weighing_same : (f g : Calculation) (b : Tasks) (hold : Resources) (i : ℕ) → let x = (section_at s i).task.0 in
      ((p : Parent) (r : Resources) → f (with b x) x p r ≡ g (with b x) x p r) → weighing f s b hold i ≡ weighing g s b hold i
  unfolding weighing_if
  weighing_same f g b hold i e = split (meets (outer s i) hold) (λ y. rw y) (λ n. rw (n, e (Some i) (joined hold (outer s i))))

  -- an ordering value by calculations that agree once a task from outside has joined B, and by numbers that are enough
  pub ordering_same : (f g : Calculation) (m n : ℕ) (b : Tasks) (q : ℕ) (entry : Resources) → outside s b ≤ m → outside s b ≤ n
      → ((x : ℕ) (p : Parent) (r : Resources) → is_outside s b x ≡ true → f (with b x) x p r ≡ g (with b x) x p r)
      → ordering m f s b q entry ≡ ordering n g s b q entry
  unfolding ordering
  ordering_same f g m n b q entry j k e =
      let most = blockers_most q b in
      let found = blockers_found q b in
      order_more s q b (weighing f s) m (blockers s q b) entry found.six (omega arith)
      ∙ sym (order_more s q b (weighing f s) n (blockers s q b) entry found.six (omega arith))
      ∙ order_same s q b (weighing f s) (weighing g s) n (blockers s q b) entry found.six
      (λ i l h hold. weighing_same f g b hold i (λ p r. e _ p r (found.each _ h)))

  level_step
      : (left : ℕ) (b : Tasks) (t : ℕ) (p : Parent) (r : Resources) → length b ≡ 6 → outside s b ≤ left
      → level left 12 s b t p r ≡ level (suc left) 12 s b t p r
  unfolding level ordering
  level_step zero b t p r six h =
      sym (sums_none s t _ 12 p r (λ q entry. order_none s q b _ 1 (blockers s q b) entry (omega (arith, blockers_most q b))))
  level_step (suc left) b t p r six h =
      ap (λ ordered. sums 12 ordered s t p r)
      (fun_ext (λ q. fun_ext (λ entry.
      ordering_same (level left 12 s) (level (suc left) 12 s) (suc left) (suc (suc left)) b q entry h (omega arith)
      (λ x o w e. level_step left (with b x) x o w (length-set b x true ∙ six) (omega (arith, outside_with s b x six (outside_six b x e) e))))))

  -- `left` at least the tasks outside B
  pub level_more
      : (left : ℕ) (b : Tasks) (t : ℕ) (p : Parent) (r : Resources) → length b ≡ 6 → outside s b ≤ left
      → level left 12 s b t p r ≡ level (outside s b) 12 s b t p r
  level_more left b t p r six = enough (λ k. level k 12 s b t p r) (outside s b) (λ k. level_step k b t p r six) left
