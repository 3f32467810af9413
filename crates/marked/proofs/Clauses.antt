-- A state is sound exactly when it breaks none of the clauses (specs/Clauses): no clause is missing there, and none is more than soundness says.
-- A test that has parts holds of all numbers where each part does. Assumes nothing.
use Rattle.std.specs.Prelude.{if◌then◌else◌}
use mathlib.Core.Path.{◌≡◌, refl, sym, ap, ◌∙◌}
use mathlib.Core.Bool.{Bool, true, false, ◌&&◌, ◌||◌, and-true, and_assoc}
use mathlib.Core.List.{List, [], ◌∷◌}
use Prim.Native.Nat.{ℕ, zero, suc}
use lib.Dec.{eqb}
use Rattle.laws.specs.Tests.{◌implies◌}
use Rattle.laws.specs.Loops.{all_to}
use Rattle.model.specs.declared.State.{State}
use Rattle.model.specs.State.{places, task_at, resource_at, here, present, declares, awaited, owner_no}
use Rattle.model.specs.Sound.{if_here, each, if_present, each_resource, sizes_fit, reservation_fits, stack_fits, queue_fits, entries_agree, used_declared, all_declared, accounts_fit, loose, sound}
use Rattle.marked.specs.Clauses.{Clause, quota_from1, quota_to_period, period_to_limit, depth_fits, entries_present, waiting_fits, waiters_here, stacks_agree, queues_agree, owner_declares, waiter_declares, all_held_declared, all_awaited_declared, own_fits, lent_fits, spin_fits, executed_fits, sum_fits, keeps, clauses, broken_of, broken, empty}

-- tests in pairs
exchanged : (a b c d : Bool) → (a && b && (c && d)) ≡ (a && c && (b && d))
exchanged true true c d = refl
exchanged true false true d = refl
exchanged true false false d = refl
exchanged false b c d = refl

guarded : (g a b c : Bool) → a ≡ (b && c) → (g implies a) ≡ ((g implies b) && (g implies c))
guarded true a b c e = e
guarded false a b c e = refl

either_implies : (x y d : Bool) → (x || y implies d) ≡ ((x implies d) && (y implies d))
either_implies true true true = refl
either_implies true true false = refl
either_implies true false true = refl
either_implies true false false = refl
either_implies false y d = refl

all_parts : (n : ℕ) (p q r : ℕ → Bool) → ((i : ℕ) → p i ≡ (q i && r i)) → all_to n p ≡ (all_to n q && all_to n r)
unfolding all_to
all_parts zero p q r e = refl
all_parts (suc n) p q r e = rw (all_parts n p q r e, e n) (exchanged (all_to n q) (all_to n r) (q n) (r n))

each_parts : (st : State) (p q r : ℕ → Bool) → ((i : ℕ) → p i ≡ (q i && r i)) → each st p ≡ (each st q && each st r)
unfolding each if_here
each_parts st p q r e = all_parts places (if_here st p) (if_here st q) (if_here st r) (λ i. guarded (here st i) (p i) (q i) (r i) (e i))

resource_parts : (st : State) (p q r : ℕ → Bool) → ((i : ℕ) → p i ≡ (q i && r i)) → each_resource st p ≡ (each_resource st q && each_resource st r)
unfolding each_resource if_present
resource_parts st p q r e = all_parts places (if_present st p) (if_present st q) (if_present st r) (λ i. guarded (present st i) (p i) (q i) (r i) (e i))

-- a part more
more_parts : (st : State) (p q r : ℕ → Bool) (b : Bool) → ((i : ℕ) → p i ≡ (q i && r i)) → each st q ≡ b → each st p ≡ (b && each st r)
more_parts st p q r b e h = each_parts st p q r e ∙ ap (λ x. x && each st r) h

-- the tests that have parts
reservations : (st : State) → each st (reservation_fits st) ≡ (each st (quota_from1 st) && each st (quota_to_period st) && each st (period_to_limit st))
unfolding reservation_fits quota_from1 quota_to_period period_to_limit
reservations st =
    more_parts st (reservation_fits st) _ (period_to_limit st) _ (λ s. refl)
    (each_parts st (λ s. quota_from1 st s && quota_to_period st s) (quota_from1 st) (quota_to_period st) (λ s. refl))

stacks : (st : State) → each st (stack_fits st) ≡ (each st (depth_fits st) && each st (entries_present st))
unfolding stack_fits depth_fits entries_present
stacks st = each_parts st (stack_fits st) (depth_fits st) (entries_present st) (λ t. refl)

queues : (st : State) → each_resource st (queue_fits st) ≡ (each_resource st (waiting_fits st) && each_resource st (waiters_here st))
unfolding queue_fits waiting_fits waiters_here
queues st = resource_parts st (queue_fits st) (waiting_fits st) (waiters_here st) (λ r. refl)

agreements : (st : State) → each st (entries_agree st) ≡ (each st (stacks_agree st) && each st (queues_agree st))
unfolding entries_agree stacks_agree queues_agree
agreements st = each_parts st (entries_agree st) (stacks_agree st) (queues_agree st) (λ t. refl)

declared_of : (st : State) (t : ℕ) → all_declared st t ≡ (all_held_declared st t && all_awaited_declared st t)
unfolding all_declared used_declared all_held_declared all_awaited_declared owner_declares waiter_declares
declared_of st t =
    resource_parts st (used_declared st t) (owner_declares st t) (waiter_declares st t)
    (λ r. either_implies (eqb (owner_no (resource_at st r).owner) t) (eqb (awaited (task_at st t).mode) r) (declares st t r))

declarations : (st : State) → each st (all_declared st) ≡ (each st (all_held_declared st) && each st (all_awaited_declared st))
declarations st = each_parts st (all_declared st) (all_held_declared st) (all_awaited_declared st) (declared_of st)

accounts
    : (st : State) → each st (accounts_fit st) ≡
    (each st (own_fits st) && each st (lent_fits st) && each st (spin_fits st) && each st (executed_fits st) && each st (sum_fits st))
unfolding accounts_fit own_fits lent_fits spin_fits executed_fits sum_fits
accounts st =
    more_parts st (accounts_fit st) _ (sum_fits st) _ (λ i. refl)
    (more_parts st (λ i. own_fits st i && lent_fits st i && spin_fits st i && executed_fits st i) _ (executed_fits st) _ (λ i. refl)
    (more_parts st (λ i. own_fits st i && lent_fits st i && spin_fits st i) _ (spin_fits st) _ (λ i. refl)
    (each_parts st (λ i. own_fits st i && lent_fits st i) (own_fits st) (lent_fits st) (λ i. refl))))

-- all of some clauses, after a test
all_of : State → Bool → List Clause → Bool
all_of st b [] = b
all_of st b (c ∷ cs) = all_of st (b && keeps st c) cs

sound_all : (st : State) → sound st ≡ all_of st true clauses
unfolding sound loose sizes_fit all_of
sound_all st = rw (reservations st, stacks st, queues st, agreements st, declarations st, accounts st) (simp and_assoc)

kept_or_broken : (k : Bool) (c : Clause) (cs : List Clause) → (k && empty cs) ≡ empty (if k then cs else c ∷ cs)
kept_or_broken true c cs = refl
kept_or_broken false c cs = refl

all_unbroken : (st : State) (b : Bool) (cs : List Clause) → all_of st b cs ≡ (b && empty (broken_of st cs))
unfolding all_of broken_of
all_unbroken st b [] = sym (and-true b)
all_unbroken st b (c ∷ cs) =
    all_unbroken st (b && keeps st c) cs ∙ and_assoc b (keeps st c) (empty (broken_of st cs))
    ∙ ap (λ x. b && x) (kept_or_broken (keeps st c) c (broken_of st cs))

pub sound_unbroken : (st : State) → sound st ≡ empty (broken st)
unfolding broken
sound_unbroken st = sound_all st ∙ all_unbroken st true clauses
