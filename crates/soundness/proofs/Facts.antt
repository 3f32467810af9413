-- The tests of specs/Computed.antt as facts, a law each way (`Reflects`). Assumes nothing.
use Rattle.std.specs.Prelude.{None, Some}
use mathlib.Core.Path.{◌≡◌, refl, sym, ap, ◌∙◌}
use mathlib.Core.Bool.{true, ◌&&◌, ◌||◌, true≢false}
use mathlib.Core.List.{List}
use mathlib.Core.Logic.{◌⊎◌}
use Prim.Native.Nat.{ℕ, ◌<◌, ◌≤◌}
use native.Mathlib.Omega.{arith}
use lib.Dec.{ltb, eqb}
use lib.ListN.{get_or}
use borrow.Author.Tests.{lt-ltb}
use Rattle.laws.specs.Tests.{bit, ◌implies◌, ◌iff◌}
use Rattle.laws.specs.Loops.{count_to, sum_to}
use Rattle.laws.proofs.Cases.{split}
use Rattle.laws.proofs.Count.{count_ext, count_sum}
use Rattle.laws.proofs.Reflect.{Reflects, reflects_self, reflects_le, reflects_lt, reflects_eq, reflects_change, reflects_not, reflects_and, reflects_or, reflects_implies, reflects_iff, reflects_all}
use Rattle.model.specs.declared.Phase.{Phase}
use Rattle.model.specs.declared.Phase.TheVariants.{Idle, Active, Running, Recharging}
use Rattle.model.specs.declared.Mode.{Mode}
use Rattle.model.specs.declared.Mode.TheVariants.{Suspended, Ready, Waiting}
use Rattle.model.specs.State.{Runs, Owner, places, in_use, in_set, idle, running, recharging, suspended, waiting, awaited, owned, placed, executor_number, running_at}
use Rattle.model.specs.declared.State.{State}
use Rattle.model.proofs.Chain.{served_below}
use Rattle.chain.specs.Arrays.{array_of, runs_for}
use Rattle.chain.specs.Computed.{at_or_nobody}
use Rattle.chain.proofs.Arrays.{array_at}
use Rattle.soundness.specs.Computed.{other_at, member_at, members_fit, used_at, used_in, wait_passes, owner_passes, serves_passes, executes_passes}

-- the first `count` places of xs are the holder's, in the set, each number once
abbrev pub Members : List ℕ → ℕ → ℕ → List ℕ → ℕ → Type 0
Members xs count set owners holder =
    (count ≤ places) ×
    ((j : ℕ) → j < count →
    ((at_or_nobody owners (get_or xs j 0) ≡ holder) × (in_set set (get_or xs j 0) ≡ true)) ×
    ((k : ℕ) → k < j → get_or xs k 0 ≡ get_or xs j 0 → ⊥))

pub members_fact : (xs : List ℕ) (count set : ℕ) (owners : List ℕ) (holder : ℕ) → Reflects (members_fit xs count set owners holder) (Members xs count set owners holder)
unfolding members_fit member_at other_at
members_fact xs count set owners holder =
    reflects_and
    (reflects_le count places)
    (reflects_all count _ _
    (λ j l.
    reflects_and
    (reflects_and (reflects_eq _ _) (reflects_self _))
    (reflects_all j _ _ (λ k m. reflects_not (reflects_eq _ _)))))

-- an array of numbers, counted
pub used_count : (f : ℕ → ℕ) → used_in (array_of f) ≡ count_to places (λ i. ltb (f i) places)
unfolding used_in used_at
used_count f = count_ext places (used_at (array_of f)) (λ i. ltb (f i) places) (λ i l. ap (λ x. ltb x places) (array_at f i l))

pub used_sum : (f : ℕ → ℕ) → used_in (array_of f) ≡ sum_to places (λ i. bit (ltb (f i) places))
used_sum f = used_count f ∙ count_sum places (λ i. ltb (f i) places)

-- a server counts in the array exactly when it runs
pub seats_count : (st : State) → used_in (array_of (runs_for st)) ≡ count_to places (running_at st)
unfolding runs_for
seats_count st = used_count (runs_for st) ∙ count_ext places _ (running_at st) counts
  where
    counts : (s : ℕ) → s < places → ltb (runs_for st s) places ≡ running_at st s
    counts s l =
        split
        (running_at st s)
        (λ y. rw y (lt-ltb _ places (served_below st s l)))
        (λ n. rw n)

-- the tests that go by cases
wait_cases
    : (resources declared : ℕ) (m : Mode)
    → wait_passes resources declared m ≡ (waiting m implies (in_use resources (awaited m) && in_set declared (awaited m)))
wait_cases resources declared Suspended = refl
wait_cases resources declared Ready = refl
wait_cases resources declared (Waiting r) = refl

pub wait_fact
    : (resources declared : ℕ) (m : Mode)
    → Reflects
    (wait_passes resources declared m)
    (waiting m ≡ true → (in_use resources (awaited m) ≡ true) × (in_set declared (awaited m) ≡ true))
wait_fact resources declared m =
    rw (wait_cases resources declared m) (reflects_implies (reflects_self _) (reflects_and (reflects_self _) (reflects_self _)))

serves_cases
    : (p : Phase) (m : Mode) (x : Runs)
    → serves_passes p m x ≡ ((running p implies placed x) && (recharging p || (idle p iff suspended m)))
serves_cases Idle m x = refl
serves_cases Active m x = refl
serves_cases Running m x = refl
serves_cases Recharging m x = refl

pub serves_fact
    : (p : Phase) (m : Mode) (x : Runs)
    → Reflects
    (serves_passes p m x)
    ((running p ≡ true → placed x ≡ true) ×
    ((recharging p ≡ true) ⊎ ((idle p ≡ true → suspended m ≡ true) × (suspended m ≡ true → idle p ≡ true))))
serves_fact p m x =
    rw (serves_cases p m x)
    (reflects_and
    (reflects_implies (reflects_self _) (reflects_self _))
    (reflects_or (reflects_self _) (reflects_iff (reflects_self _) (reflects_self _))))

executes_cases : (xs : List ℕ) (t : ℕ) (x : Runs) → executes_passes xs t x ≡ (placed x implies eqb (at_or_nobody xs (executor_number x)) t)
executes_cases xs t None = refl
executes_cases xs t (Some s) = refl

pub executes_fact
    : (xs : List ℕ) (t : ℕ) (x : Runs) → Reflects (executes_passes xs t x) (placed x ≡ true → at_or_nobody xs (executor_number x) ≡ t)
executes_fact xs t x = rw (executes_cases xs t x) (reflects_implies (reflects_self _) (reflects_eq _ _))

pub owner_fact
    : (inForce waiting : ℕ) (o : Owner)
    → Reflects (owner_passes inForce waiting o) ((owned o ≡ true → inForce < places) × ((owned o ≡ true → ⊥) → waiting ≡ 0))
owner_fact inForce waiting None =
    reflects_change
    (reflects_eq waiting 0)
    (λ e. (λ h. absurd (true≢false (sym h)), λ n. e))
    (λ h. h.1 (λ e. true≢false (sym e)))
owner_fact inForce waiting (Some t) =
    reflects_change (reflects_lt inForce places) (λ l. (λ h. l, λ n. absurd (n refl))) (λ h. h.0 refl)

-- what a task in a mode waits for is no number in use unless it waits
pub awaited_waiting : (m : Mode) → awaited m < places → waiting m ≡ true
awaited_waiting Suspended l = absurd (omega arith)
awaited_waiting Ready l = absurd (omega arith)
awaited_waiting (Waiting r) l = refl
