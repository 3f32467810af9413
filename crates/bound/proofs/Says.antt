-- What an answer says: the bound and the weighings are those of the calculation as the rules say it, a refusal has bound 0 and weighings 0, and nothing
-- else can be answered. Assumes nothing.
use mathlib.Core.Path.{◌≡◌, refl, sym, ap, ◌∙◌}
use mathlib.Core.Option.{Option, none, some}
use mathlib.Core.Logic.{◌↔◌}
use Prim.Native.Nat.{ℕ, ◌≤◌}
use native.Mathlib.Omega.{arith}
use lib.Dec.{ltb}
use borrow.Author.Tests.{ltb-false, le-ltb}
use Rattle.laws.proofs.Cases.{split, none_some}
use Rattle.std.specs.Prelude.{None, Ok, Err}
use Rattle.bound.specs.declared.Bound.{Bound}
use Rattle.bound.specs.declared.Sections.{Sections}
use Rattle.bound.specs.Sets.{no_task, no_resource, with}
use Rattle.bound.specs.Table.{refusal}
use Rattle.bound.specs.Interference.{Weighed}
use Rattle.bound.specs.Answer.{Bounded, bounded, within, answer, said}
use Rattle.bound.proofs.Unfolded.{interference}
use Rattle.bound.proofs.Answers.{answer_is}

same_bound : (found new : Bound) → ◌≡◌ {A = Bounded} (Ok found) (Ok new) → found ≡ new
same_bound found new e = cc

-- rule 12.6
abbrev pub calculated : Sections → ℕ → Weighed
calculated s t = interference s (with no_task t) t None no_resource

module _ (s : Sections) (t allowance : ℕ) where
  -- nothing is refused, and b and n are the value and the weighings, which the allowance covers
  pub record Says (b n : ℕ) : Type 0 where
    pub accepted : refusal s t allowance ≡ none
    pub bound_is : b ≡ (calculated s t).value
    pub weighings_is : n ≡ (calculated s t).weighings
    pub covered : n ≤ allowance

  covers : (w : Weighed) (b n : ℕ) → within allowance w ≡ bounded b n → (b ≡ w.value) × (n ≡ w.weighings) × (n ≤ allowance)
  covers w b n e =
      split (ltb allowance w.weighings)
      (λ y.
      let q : Err 46 ≡ bounded b n = rw y at e in
      absurd (let z : ◌≡◌ {A = ℕ} 0 1 = cc in omega arith))
      (λ f.
      let q : bounded w.value w.weighings ≡ bounded b n = rw f at e in
      let parts = same_bound _ _ q in
      let m : w.weighings ≡ n = ap (λ found. found.weighings) parts in
      (sym (ap (λ found. found.value) parts), sym m, omega (arith, ltb-false allowance w.weighings f)))

  says_if : (o : Option ℕ) (b n : ℕ) → refusal s t allowance ≡ o → answer s t allowance ≡ bounded b n → Says b n
  unfolding answer
  says_if none b n r e =
      let c = covers (calculated s t) b n (sym (answer_is s t allowance r) ∙ e) in
      record { accepted = r; bound_is = c.0; weighings_is = c.1; covered = c.2 }
  says_if (some m) b n r e =
      let q : Err m ≡ bounded b n = rw r at e in
      absurd (let z : ◌≡◌ {A = ℕ} 0 1 = cc in omega arith)

  said_if : (b n : ℕ) → Says b n → answer s t allowance ≡ bounded b n
  said_if b n h =
      let m : (calculated s t).weighings ≤ allowance = omega (arith, h.weighings_is, h.covered) in
      answer_is s t allowance h.accepted ∙ rw (le-ltb _ _ m, h.bound_is, h.weighings_is)

  -- a bound is answered exactly where it says so
  pub says : (b n : ℕ) → (answer s t allowance ≡ bounded b n) ↔ Says b n
  says b n = (says_if (refusal s t allowance) b n refl, said_if b n)

  -- a refusal has neither a bound nor weighings (rule 12.9): of the tests, and of 46
  pub refused : (n : ℕ) → refusal s t allowance ≡ some n → said (answer s t allowance) ≡ record { refused = some n; bound = 0; weighings = 0 }
  unfolding answer
  refused n e = rw e

-- whatever refuses returns bound 0 and weighings 0
pub refused_zero : (x : Bounded) (n : ℕ) → (said x).refused ≡ some n → ((said x).bound ≡ 0) × ((said x).weighings ≡ 0)
refused_zero (Ok found) n e = none_some e
refused_zero (Err k) n e = (refl, refl)
