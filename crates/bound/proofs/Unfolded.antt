-- The calculations as the rules say them, each in terms of both: no number of tasks or of sections left stands in these equations.
-- Assumes an accepted table, and sets of tasks that are 6 long.
use mathlib.Core.Path.{◌≡◌, refl, sym, ap, ◌∙◌, fun_ext}
use mathlib.Core.Bool.{true, false}
use Prim.Native.Nat.{ℕ, zero, suc, ◌-◌, ◌<◌, ◌≤◌, min}
use native.Mathlib.Omega.{arith}
use lib.Dec.{ltb}
use lib.ListN.{length, length-set}
use borrow.Author.Tests.{ltb-true, ltb-false, lt-ltb}
use Rattle.laws.specs.Loops.{count_to}
use Rattle.laws.proofs.Cases.{split, and_both}
use Rattle.laws.proofs.Lists.{replicate_at}
use Rattle.std.specs.Prelude.{Some, None}
use Rattle.bound.specs.Table.{Parent}
use Rattle.bound.specs.declared.Sections.{Sections}
use Rattle.bound.specs.Sets.{Tasks, Resources, no_task, no_resource, with, without}
use Rattle.bound.specs.Interference.{Weighed, Calculation, both, larger, gathered, weighing, tried_next, order, blockers, ordering, sum_over, sums, level, bound}
use Rattle.bound.proofs.Accepted.{Accepted}
use Rattle.bound.proofs.Gathered.{gathered_same}
use Rattle.bound.proofs.Orders.{remain, remain_without, tried_same, order_more}
use Rattle.bound.proofs.Depths.{nesting, over_same, depth_more}
use Rattle.bound.proofs.Levels.{is_outside, outside, outside_with, outside_six, ordering_same, level_more, blockers_six, blockers_most}

-- the interference sum
unfoldable pub interference : Sections → Calculation
interference s b t p r = level (outside s b) 12 s b t p r

-- the largest sum over the orders of the remaining tasks
unfoldable pub orders : Sections → ℕ → Tasks → Tasks → Resources → Weighed
orders s q b remaining held = order (remain remaining) (weighing (interference s) s) s q b remaining held

-- the ordering value
abbrev pub ordering_value : Sections → Tasks → ℕ → Resources → Weighed
ordering_value s b q entry = orders s q b (blockers s q b) entry

-- the tree of orders: rule 12.8
pub order_is : (s : Sections) (q : ℕ) (b remaining : Tasks) (held : Resources) → length remaining ≡ 6
    → orders s q b remaining held ≡ gathered (λ x. larger) (tried_next (weighing (interference s) s) (orders s q) s q b remaining held) 6
unfolding orders order
order_is s q b remaining held six =
    let weigh = weighing (interference s) s in
    sym (order_more s q b weigh (suc (remain remaining)) remaining held six (omega arith))
    ∙ gathered_same _ _ _ 6
    (λ x l.
    tried_same s q b weigh weigh (order (remain remaining) weigh s q) (orders s q) remaining held x
    (λ e i m t. refl)
    (λ e hold.
    order_more s q b weigh (remain remaining) (without remaining x) hold (length-set remaining x false ∙ six) (omega (arith, remain_without remaining x six (omega arith) e))))

nesting_most : (s : Sections) → Accepted s → (p : Parent) → nesting s p ≤ 12
nesting_most s good None = good.count_most
nesting_most s good (Some p) = omega (arith, good.count_most)

module _ (s : Sections) (good : Accepted s) (b : Tasks) (six : length b ≡ 6) where
  -- any numbers that are enough give the same
  pub numbers_more : (left turns depth t : ℕ) (p : Parent) (r : Resources) → outside s b ≤ suc left → outside s b ≤ turns → nesting s p ≤ depth
      → sums depth (ordering turns (level left 12 s) s b) s t p r ≡ interference s b t p r
  unfolding interference level
  numbers_more left turns depth t p r h j k =
      depth_more s t good (ordering turns (level left 12 s) s b) depth p r k
      ∙ sym (depth_more s t good (ordering turns (level left 12 s) s b) 12 p r (nesting_most s good p))
      ∙ ap (λ ordered. sums 12 ordered s t p r)
      (fun_ext (λ q. fun_ext (λ entry. ordering_same s good (level left 12 s) (level left 12 s) turns (suc left) b q entry j h (λ x o w e. refl))))
      ∙ level_more s good (suc left) b t p r six h

  value_is : (q : ℕ) (entry : Resources) → ordering (outside s b) (level (outside s b) 12 s) s b q entry ≡ ordering_value s b q entry
  unfolding interference orders ordering
  value_is q entry =
      ordering_same s good (level (outside s b) 12 s) (interference s) (outside s b) (outside s b) b q entry (omega arith) (omega arith)
      (λ x p r e.
      level_more s good (outside s b) (with b x) x p r (length-set b x true ∙ six)
      (omega (arith, outside_with s b x six (outside_six s good b x e) e)))
      ∙ order_more s q b (weighing (interference s) s) (outside s b) (blockers s q b) entry (blockers_six s good q b) (blockers_most s good q b)

  -- interference: rule 12.4
  pub sum_is : (t : ℕ) (p : Parent) (r : Resources)
      → interference s b t p r ≡ gathered (λ c. both) (sum_over (ordering_value s b) (interference s b t) s t p r) s.count
  unfolding sums
  sum_is t p r =
      let most = nesting_most s good p in
      sym (numbers_more (outside s b) (outside s b) 13 t p r (omega arith) (omega arith) (omega arith))
      ∙ gathered_same _ _ _ s.count
      (λ c l.
      over_same s t _ _ _ _ p r c value_is
      (λ e wider. numbers_more (outside s b) (outside s b) 12 t (Some c) wider (omega arith) (omega arith) (nesting_most s good (Some c))))

-- B with no task in it leaves all outside
outside_none : (s : Sections) (n : ℕ) → count_to n (is_outside s no_task) ≡ min n s.tasks
unfolding count_to is_outside
outside_none s zero = omega arith
outside_none s (suc n) =
    split
    (ltb n s.tasks)
    (λ y. rw (y, replicate_at 6 n false) (omega (arith, ltb-true n s.tasks y, outside_none s n)))
    (λ e. rw e (omega (arith, ltb-false n s.tasks e, outside_none s n)))

-- rule 12.6
pub bound_is : (s : Sections) → Accepted s → (t : ℕ) → t < s.tasks → bound s t ≡ interference s (with no_task t) t None no_resource
unfolding bound interference is_outside
bound_is s good t l =
    let there : is_outside s no_task t ≡ true = and_both _ _ (lt-ltb t s.tasks l) (rw (replicate_at 6 t false)) in
    let fewer = outside_with s no_task t refl (omega (arith, good.tasks_most)) there in
    level_more s good (s.tasks - 1) (with no_task t) t None no_resource (length-set no_task t true) (omega (arith, outside_none s 6, good.tasks_most))
