-- The empty versions that the contracts have to shut out do not meet them, each told apart by an example. Of a step: `ok 0` for every event, a
-- refusal for every event, the state handed back untouched. Of a replay: one that steps the first event and tells its answer again for the rest. Of
-- the bound: one that invents its weighings, or the number at which they exceed the allowance. Assumes nothing.
use Rattle.std.specs.Prelude.{if◌then◌else◌}
use mathlib.Core.Path.{◌≡◌, refl, sym, ap, ◌∙◌}
use mathlib.Core.List.{List, [], ◌∷◌, ◌++◌}
use mathlib.Core.Option.{Option, none, some}
use Prim.Native.Nat.{ℕ, zero, suc, ◌+◌, ◌<◌, ◌≤◌}
use native.Mathlib.Omega.{arith}
use lib.Dec.{ltb}
use lib.ListN.{get_or, drop}
use borrow.Author.Tests.{ltb-true, ltb-false}
use Rattle.laws.proofs.Cases.{split, none_some}
use Rattle.lent_bytes.specs.Text.{bytes, digits, decimal}
use Rattle.model.specs.declared.State.{State}
use Rattle.model.specs.declared.Phase.{Phase}
use Rattle.model.specs.declared.Phase.TheVariants.{Idle, Active}
use Rattle.model.specs.declared.Table.{Table}
use Rattle.model.specs.declared.Event.{Event}
use Rattle.model.specs.declared.Answer.{Answer}
use Rattle.model.specs.declared.Answer.TheVariants.{Ok, Refused}
use Rattle.model.specs.declared.Outcome.{Outcome}
use Rattle.model.specs.State.{server_at}
use Rattle.model.specs.Fresh.{fresh_state}
use Rattle.model.specs.Step.{stepped}
use Rattle.bound.specs.declared.Sections.{Sections}
use Rattle.bound.specs.Answer.{Bounded, answer, said}
use Rattle.listing.specs.Text.{field, newline, spelled}
use Rattle.listing.specs.Listing.{event_line, listing}
use Rattle.marked.specs.Example.{Example, Holds, AllHold, ◌and◌, nothing}
use Rattle.marked.specs.Trace.{wake, trace_of}
use Rattle.marked.specs.Marked.{table_r, events_r, three_tasks}
use Rattle.marked.proofs.Examples.{first_wake, marked}

-- what the example of that number says, from 0 on
abbrev Nth : ℕ → List Example → Type 0
Nth n [] = Unit {0}
Nth zero (x ∷ xs) = Holds x
Nth (suc n) (x ∷ xs) = Nth n xs

nth : (n : ℕ) {xs : List Example} → AllHold xs → Nth n xs
nth zero nothing = tt
nth (suc n) nothing = tt
nth zero (x and xs) = x
nth (suc n) (x and xs) = nth n xs

module _ (f : State → Event → Outcome) (meets : (st : State) (e : Event) → f st e ≡ stepped st e) where
  woken : (f (fresh_state table_r) (wake 2)).answer ≡ Ok 1
  woken = ap (λ o. o.answer) (meets (fresh_state table_r) (wake 2)) ∙ first_wake.0

  pub not_ok_to_all : ((st : State) (e : Event) → (f st e).answer ≡ Ok 0) → ⊥
  not_ok_to_all always = let z : ◌≡◌ {A = Answer} (Ok 0) (Ok 1) = sym (always _ _) ∙ woken in let y : ◌≡◌ {A = ℕ} 0 1 = cc in absurd (omega arith)

  pub not_refusing : (number : State → Event → ℕ) → ((st : State) (e : Event) → (f st e).answer ≡ Refused (number st e)) → ⊥
  not_refusing number always =
      let z : ◌≡◌ {A = Answer} (Refused (number (fresh_state table_r) (wake 2))) (Ok 1) = sym (always _ _) ∙ woken in
      let y : ◌≡◌ {A = ℕ} 0 1 = cc in
      absurd (omega arith)

  pub not_untouched : ((st : State) (e : Event) → (f st e).state ≡ st) → ⊥
  not_untouched always =
      let z : ◌≡◌ {A = Phase} Idle Active =
      sym first_wake.1 ∙ ap (λ st. (server_at st 2).phase) (sym (always (fresh_state table_r) (wake 2)) ∙ ap (λ o. o.state) (meets (fresh_state table_r) (wake 2))) ∙ first_wake.2 in
      let y : ◌≡◌ {A = ℕ} 0 1 = cc in
      absurd (omega arith)

-- a line for each event from number n on, all with one answer
abbrev pub echoed : Answer → ℕ → List Event → List ℕ
echoed a n [] = []
echoed a n (e ∷ es) = event_line n a ++ echoed a (n + 1) es

-- the tenth byte of case R's listing is the first of its second event's word
tenth : List ℕ → ℕ
tenth text = get_or text 9 0

tenth_echoed : (rest : List ℕ) → tenth (echoed (Ok 1) 1 events_r ++ rest) ≡ 111
unfolding tenth event_line bytes digits decimal field newline spelled
tenth_echoed rest = refl

tenth_told : tenth (listing (trace_of table_r events_r)) ≡ 101
unfolding tenth bytes
tenth_told = ap (λ text. get_or text 9 0) (nth 0 marked)

pub not_echoing
    : (f : List ℕ → List ℕ) → ((file : List ℕ) → f file ≡ listing file) → (end : Table → List Event → List ℕ)
    → ((tb : Table) (e : Event) (es : List Event) →
    f (trace_of tb (e ∷ es)) ≡ echoed (stepped (fresh_state tb) e).answer 1 (e ∷ es) ++ end tb (e ∷ es))
    → ⊥
not_echoing f meets end always =
    let same : echoed (Ok 1) 1 events_r ++ end table_r events_r ≡ listing (trace_of table_r events_r) =
    ap (λ a. echoed a 1 events_r ++ end table_r events_r) (sym first_wake.0) ∙ sym (always table_r (wake 2) (drop 1 events_r)) ∙ meets (trace_of table_r events_r) in
    let z : ◌≡◌ {A = ℕ} 111 101 = sym (tenth_echoed (end table_r events_r)) ∙ ap tenth same ∙ tenth_told in
    absurd (omega arith)

-- 46 for an allowance below the least that is enough
abbrev pub exhausted : ℕ → ℕ → Option ℕ
exhausted least allowance = if ltb allowance least then some 46 else none

-- which is known from one that is not and the next
least_is : (n : ℕ) → exhausted n 3 ≡ some 46 → exhausted n 4 ≡ none → n ≡ 4
least_is n short enough =
    let above : 3 < n = split (ltb 3 n) (λ y. ltb-true 3 n y) (λ x. none_some (rw x at short)) in
    let below : n ≤ 4 = split (ltb 4 n) (λ y. none_some (sym (rw y at enough))) (λ x. ltb-false 4 n x) in
    omega arith

module _ (f : Sections → ℕ → ℕ → Bounded) (meets : (s : Sections) (t allowance : ℕ) → f s t allowance ≡ answer s t allowance) where
  -- four weighings are spent on task 0, and no other number may be told
  pub not_inventing
      : (invented : Sections → ℕ → ℕ) → (invented three_tasks 0 ≡ 4 → ⊥) → ((s : Sections) (t allowance : ℕ) → (said (f s t allowance)).weighings ≡ invented s t)
      → ⊥
  not_inventing invented other always =
      other (sym (always three_tasks 0 1000000) ∙ ap (λ b. (said b).weighings) (meets three_tasks 0 1000000 ∙ nth 9 marked))

  -- an allowance of three is exceeded and one of four is not, so that no other number may be the least that is enough
  pub not_exhausting
      : (least : Sections → ℕ → ℕ) → (least three_tasks 0 ≡ 4 → ⊥)
      → ((s : Sections) (t allowance : ℕ) → (said (f s t allowance)).refused ≡ exhausted (least s t) allowance)
      → ⊥
  not_exhausting least other always =
      other (least_is (least three_tasks 0)
      (sym (always three_tasks 0 3) ∙ ap (λ b. (said b).refused) (meets three_tasks 0 3 ∙ nth 12 marked))
      (sym (always three_tasks 0 4) ∙ ap (λ b. (said b).refused) (meets three_tasks 0 4 ∙ nth 13 marked)))
