-- What a step of the calculation is made of, from what the code finds at it. Assumes nothing.
use Rattle.std.specs.Prelude.{if◌then◌else◌, Option, Some, None}
use mathlib.Core.Path.{◌≡◌, refl, sym, ap, ◌∙◌}
use mathlib.Core.Bool.{Bool, true, false, and-false}
use Prim.Native.Nat.{ℕ, zero, suc, ◌-◌, ◌<◌, ◌≤◌, max}
use native.Mathlib.Numerals.{sub-one}
use native.Mathlib.Omega.{arith}
use lib.Dec.{ltb}
use lib.ListN.{length, get_or, take}
use Rattle.laws.proofs.Lists.{taken}
use Rattle.bound.proofs.Accepted.{Accepted}
use borrow.Author.Tests.{ltb-true, ltb-false, eqb-true, eq-eqb, ne_eqb}
use Rattle.laws.proofs.Cases.{split, and_left}
use Rattle.bound.specs.declared.Section.{Section}
use Rattle.bound.specs.declared.Sections.{Sections}
use Rattle.bound.specs.Sets.{Tasks, Resources, has, with, without, joined, meets}
use Rattle.bound.specs.Table.{Parent, no_section, section_at, outer}
use Rattle.bound.specs.Interference.{Weighed, weighed, both, larger, gathered, Calculation, Weighing, weighing_if, weighing, is_on, weighed_on, first_greatest, best, held_after, tried_next, order, blocker, blockers, ordering, is_in, sum_over, sums, level}
use Rattle.bound.specs.Computed.{spend}
use Rattle.bound.proofs.Turns.{Of, Exceeded, lasted, exceeds, nothing_of, one_of, turn_out}

-- the task of a section that the code goes over
pub task_taken
    : (s : Sections) → Accepted s → (i : ℕ) → s.count ≤ length s.section → i < length (take s.count s.section)
    → (get_or (take s.count s.section) i no_section).task.0 < 6
task_taken s good i l m =
    let at = taken s.count i s.section no_section l m in
    rw at.1 (omega (arith, good.task_there i at.0, good.tasks_most))

-- section i's task, which blocks, or does not
module _ (s : Sections) (q : ℕ) (b found : Tasks) (i : ℕ) (x : Section) (is : x ≡ section_at s i) (r : Tasks) where
  pub blocker_adds : x.resource ≡ q → has b x.task.0 ≡ false → r ≡ with found x.task.0 → r ≡ blocker s q b i found
  unfolding blocker
  blocker_adds e n m = m ∙ sym (rw (← is, eq-eqb _ _ e, n))

  pub blocker_other : (x.resource ≡ q → ⊥) → r ≡ found → r ≡ blocker s q b i found
  unfolding blocker
  blocker_other e m = m ∙ sym (rw (← is, ne_eqb _ _ e))

  pub blocker_inside : has b x.task.0 ≡ true → r ≡ found → r ≡ blocker s q b i found
  unfolding blocker
  blocker_inside n m = m ∙ sym (rw (← is, n, and-false))

-- section i weighed: not one of those sought; of no allowance; refused for Held; or its length and then its children
module _ (s : Sections) (same : Calculation) (q x : ℕ) (b : Tasks) (held : Resources) (i : ℕ) (y : Bool) (test : y ≡ is_on s q x i) where
  abbrev weight : Weighed
  weight = weighed_on (weighing same s b held) s q x i

  pub weigh_not : (a : ℕ) → y ≡ false → Of 0 None a ≡ spend weight a
  unfolding weighed_on
  weigh_not a n = rw (sym test ∙ n) (nothing_of a)

  module _ (on : y ≡ true) where
    on_is : is_on s q x i ≡ true
    on_is = sym test ∙ on

    pub weigh_none : (a : ℕ) → a ≡ 0 → Exceeded ≡ spend weight a
    unfolding weighed_on weighing_if
    weigh_none a z = rw on_is (split (meets (outer s i) held) (λ m. rw m (exceeds _ a (omega arith))) (λ m. rw m (exceeds _ a (omega arith))))

    -- the section's outer resources, as the code has them
    module _ (o : Resources) (own : o ≡ outer s i) (m : Bool) (meeting : m ≡ meets o held) where
      met : meets (outer s i) held ≡ m
      met = sym (rw own at meeting)

      pub weigh_met : (a : ℕ) → (a ≡ 0 → ⊥) → m ≡ true → Of 0 None (a - 1) ≡ spend weight a
      unfolding weighed_on weighing_if
      weigh_met a some_left e = rw (on_is, met, e) (one_of 0 a some_left)

      pub weigh_is
          : m ≡ false → (wider : Tasks) (joint : Resources) → wider ≡ with b x → joint ≡ joined held o
          → weight ≡ both (weighed (section_at s i).length None 1) (same wider x (Some i) joint)
      unfolding weighed_on weighing_if
      weigh_is apart wider joint wider-is joint-is =
          let task : (section_at s i).task.0 ≡ x = eqb-true _ _ (and_left _ _ on_is) in
          rw (on_is, met, apart, task, wider-is, joint-is, own)

-- a task tried next
module _ (s : Sections) (weigh : Weighing) (after : Tasks → Tasks → Resources → Weighed) (q : ℕ) (b remaining : Tasks) (held : Resources) (x : ℕ)
    (there : has remaining x ≡ true) where
  abbrev next : Weighed
  next = best (weigh b held) s q x

  pub tried_starts : tried_next weigh after s q b remaining held x ≡ both next (after b (without remaining x) (held_after s held next.giver))
  unfolding tried_next
  tried_starts = rw there

  pub tried_is
      : (a v : ℕ) (u : Option ℕ) (l : ℕ) → Of v u l ≡ spend next a → (fewer : Tasks) (holding : Resources) → fewer ≡ without remaining x → holding ≡ held_after s held u
      → tried_next weigh after s q b remaining held x ≡ both next (after b fewer holding)
  tried_is a v u l found fewer holding fewer-is holding-is = tried_starts ∙ sym (rw (fewer-is, holding-is, (lasted next a v u l found).giver_is))

-- a section of the sum
module _ (s : Sections) (ordered : ℕ → Resources → Weighed) (same : Parent → Resources → Weighed) (t : ℕ) (p : Parent) (r : Resources) (c : ℕ) (y : Bool)
    (test : y ≡ is_in s t p c) where
  pub sum_not : (a : ℕ) → y ≡ false → Of 0 None a ≡ spend (sum_over ordered same s t p r c) a
  unfolding sum_over
  sum_not a n = rw (sym test ∙ n) (nothing_of a)

  pub sum_is_lem
      : y ≡ true → (wider : Resources) → wider ≡ with r (section_at s c).resource
      → sum_over ordered same s t p r c ≡ both (ordered (section_at s c).resource wider) (same (Some c) wider)
  unfolding sum_over
  sum_is_lem inside wider wider-is = rw (sym test ∙ inside, wider-is)

-- a section that exceeds the allowance
pub best_exceeds
    : (s : Sections) (weigh : ℕ → Weighed) (q x a i v : ℕ) (u : Option ℕ) (l : ℕ) → i < s.count
    → Of v u l ≡ spend (gathered first_greatest (weighed_on weigh s q x) i) a → Exceeded ≡ spend (weighed_on weigh s q x i) l
    → Exceeded ≡ spend (best weigh s q x) a
unfolding best
best_exceeds s weigh q x a i v u l m = turn_out first_greatest (λ j y z. refl) _ a i s.count v u l m

-- the calculations as the code calls them: with something left, and with nothing
module _ (weigh : Weighing) (s : Sections) (q : ℕ) (b remaining : Tasks) (held : Resources) where
  pub order_made
      : (left : ℕ) → (left ≡ 0 → ⊥)
      → gathered (λ x. larger) (tried_next weigh (order (left - 1) weigh s q) s q b remaining held) 6 ≡ order left weigh s q b remaining held
  unfolding order
  order_made zero n = absurd (n refl)
  order_made (suc left) n = rw sub-one

  pub order_ends : (left a : ℕ) → left ≡ 0 → Of 0 None a ≡ spend (order left weigh s q b remaining held) a
  unfolding order
  order_ends left a e = rw e (nothing_of a)

module _ (s : Sections) (b : Tasks) (t : ℕ) (p : Parent) (r : Resources) where
  pub sum_made
      : (left depth : ℕ) → (left ≡ 0 → ⊥) → (depth ≡ 0 → ⊥)
      → gathered (λ c. both) (sum_over (ordering left (level (left - 1) 12 s) s b) (level left (depth - 1) s b t) s t p r) s.count ≡ level left depth s b t p r
  unfolding level sums
  sum_made zero depth z y = absurd (z refl)
  sum_made (suc left) zero z y = absurd (y refl)
  sum_made (suc left) (suc depth) z y = rw (sub-one, sub-one)

  pub sum_alone : (left depth a : ℕ) → left ≡ 0 → Of 0 None a ≡ spend (level left depth s b t p r) a
  unfolding level
  sum_alone left depth a e = rw e (nothing_of a)

  pub sum_ends : (left depth a : ℕ) → depth ≡ 0 → Of 0 None a ≡ spend (level left depth s b t p r) a
  unfolding level sums
  sum_ends zero depth a e = nothing_of a
  sum_ends (suc left) depth a e = rw e (nothing_of a)

pub own_is
    : (left : ℕ) (same : Calculation) (s : Sections) (b found : Tasks) (q : ℕ) (entry : Resources) → found ≡ blockers s q b
    → order left (weighing same s) s q b found entry ≡ ordering left same s b q entry
unfolding ordering
own_is left same s b found q entry e = rw e

-- a turn that gives nothing
pub order_skips
    : (weigh : Weighing) (after : Tasks → Tasks → Resources → Weighed) (s : Sections) (q : ℕ) (b remaining : Tasks) (held : Resources) (x a : ℕ)
    → has remaining x ≡ false → Of 0 None a ≡ spend (tried_next weigh after s q b remaining held x) a
unfolding tried_next
order_skips weigh after s q b remaining held x a gone = rw gone (nothing_of a)

-- all turns are done
pub turns_all : (join : ℕ → Weighed → Weighed → Weighed) (give : ℕ → Weighed) (i : ℕ) → i ≤ 6 → 6 ≤ i → gathered join give i ≡ gathered join give 6
turns_all join give i l m = let e : i ≡ 6 = omega arith in ap (gathered join give) e

-- the larger of two values
pub max_is : (v y : ℕ) → max v y ≡ (if ltb v y then y else v)
max_is v y = split (ltb v y) (λ t. rw t (omega (arith, ltb-true v y t))) (λ f. rw f (omega (arith, ltb-false v y f)))
