-- Laws of `order`: it depends on how the remaining tasks' sections weigh, and on `left` no further than the tasks remaining.
-- Assumes of sets of tasks that they are 6 long.
use mathlib.Core.Path.{◌≡◌, refl, sym, ap, ◌∙◌}
use mathlib.Core.Bool.{true, false}
use Prim.Native.Nat.{ℕ, zero, suc, ◌+◌, ◌<◌, ◌≤◌}
use native.Mathlib.Omega.{arith}
use lib.Dec.{eqb}
use lib.ListN.{length, length-set}
use lib.Seq.{get_or-set_same, get_or-set_other}
use borrow.Author.Tests.{eqb-true}
use Rattle.laws.specs.Tests.{bit}
use Rattle.laws.specs.Loops.{count_to}
use Rattle.laws.proofs.Cases.{split, holds_fails}
use Rattle.laws.proofs.Count.{zero_count, count_but_one}
use Rattle.laws.proofs.Lists.{get_d_set}
use Rattle.bound.specs.declared.Sections.{Sections}
use Rattle.bound.specs.Sets.{Tasks, Resources, has, without}
use Rattle.bound.specs.Table.{section_at}
use Rattle.bound.specs.Interference.{Weighed, Weighing, nothing, weighed_on, first_greatest, best, held_after, tried_next, order}
use Rattle.bound.proofs.Gathered.{gathered_same, gathered_none, enough}

-- how many tasks remain
abbrev pub remain : Tasks → ℕ
remain xs = count_to 6 (has xs)

-- what is in the set without x was in the set
without_has : (xs : Tasks) (x y : ℕ) → x < length xs → has (without xs x) y ≡ true → has xs y ≡ true
without_has xs x y l e =
    let now = get_d_set xs x y false false l in
    split (eqb y x) (λ q. holds_fails e (now ∙ rw q)) (λ q. sym (now ∙ rw q) ∙ e)

-- one fewer remains
pub remain_without : (xs : Tasks) (x : ℕ) → length xs ≡ 6 → x < 6 → has xs x ≡ true → remain (without xs x) + 1 ≡ remain xs
remain_without xs x six l e =
    let gone : bit (has (without xs x) x) ≡ 0 = ap bit (get_or-set_same xs x false false (omega arith)) in
    omega (arith, ap bit e, count_but_one 6 x (has (without xs x)) (has xs) l (λ j m d. get_or-set_other xs x j false false d))

-- a task's best depends on how its own sections weigh
best_same
    : (f g : ℕ → Weighed) (s : Sections) (q x : ℕ)
    → ((i : ℕ) → i < s.count → (section_at s i).task.0 ≡ x → f i ≡ g i) → best f s q x ≡ best g s q x
unfolding best weighed_on
best_same f g s q x e =
    gathered_same first_greatest _ _ s.count
    (λ i l. split (eqb (section_at s i).task.0 x) (λ t. rw (e i l (eqb-true _ _ t))) (λ t. rw t))

module _ (s : Sections) (q : ℕ) (b : Tasks) where
  -- trials that agree where x remains
  pub tried_same
      : (f g : Weighing) (h k : Tasks → Tasks → Resources → Weighed) (remaining : Tasks) (held : Resources) (x : ℕ)
      → (has remaining x ≡ true → (i : ℕ) → i < s.count → (section_at s i).task.0 ≡ x → f b held i ≡ g b held i)
      → (has remaining x ≡ true → (hold : Resources) → h b (without remaining x) hold ≡ k b (without remaining x) hold)
      → tried_next f h s q b remaining held x ≡ tried_next g k s q b remaining held x
  unfolding tried_next
  tried_same f g h k remaining held x same later =
      split
      (has remaining x)
      (λ e. rw (best_same (f b held) (g b held) s q x (same e), later e (held_after s held (best (g b held) s q x).giver)))
      (λ e. rw e)

  -- no task remains
  pub order_none
      : (weigh : Weighing) (left : ℕ) (remaining : Tasks) (held : Resources)
      → remain remaining ≡ 0 → order left weigh s q b remaining held ≡ nothing
  unfolding order tried_next
  order_none weigh zero remaining held e = refl
  order_none weigh (suc left) remaining held e = gathered_none _ _ 6 (λ x. refl) (λ x l. rw (zero_count 6 x (has remaining) e l))

  -- the remaining tasks' sections weigh the same
  pub order_same
      : (f g : Weighing) (left : ℕ) (remaining : Tasks) (held : Resources) → length remaining ≡ 6
      → ((i : ℕ) → i < s.count → has remaining (section_at s i).task.0 ≡ true → (hold : Resources) → f b hold i ≡ g b hold i)
      → order left f s q b remaining held ≡ order left g s q b remaining held
  unfolding order
  order_same f g zero remaining held six e = refl
  order_same f g (suc left) remaining held six e =
      gathered_same _ _ _ 6
      (λ x l.
      tried_same f g (order left f s q) (order left g s q) remaining held x
      (λ h i m t. e i m (rw t h) held)
      (λ h hold.
      order_same f g left (without remaining x) hold (length-set remaining x false ∙ six)
      (λ i m t. e i m (without_has remaining x _ (omega arith) t))))

  -- one more to `left`
  order_step : (weigh : Weighing) (left : ℕ) (remaining : Tasks) (held : Resources) → length remaining ≡ 6 → remain remaining ≤ left
      → order left weigh s q b remaining held ≡ order (suc left) weigh s q b remaining held
  unfolding order
  order_step weigh zero remaining held six h = sym (order_none weigh 1 remaining held (omega arith))
  order_step weigh (suc left) remaining held six h =
      gathered_same _ _ _ 6
      (λ x l.
      tried_same weigh weigh (order left weigh s q) (order (suc left) weigh s q) remaining held x
      (λ e i m t. refl)
      (λ e hold.
      order_step weigh left (without remaining x) hold (length-set remaining x false ∙ six)
      (omega (arith, remain_without remaining x six (omega arith) e))))

  -- `left` at least the tasks that remain
  pub order_more : (weigh : Weighing) (left : ℕ) (remaining : Tasks) (held : Resources) → length remaining ≡ 6 → remain remaining ≤ left
      → order left weigh s q b remaining held ≡ order (remain remaining) weigh s q b remaining held
  order_more weigh left remaining held six =
      enough (λ k. order k weigh s q b remaining held) (remain remaining) (λ k. order_step weigh k remaining held six) left
