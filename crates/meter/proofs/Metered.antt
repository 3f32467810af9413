-- What the contract of `meter::rows::fill` promises, of any function that meets it: a refusal writes nothing, row s receives server s's, every other row
-- stays, and there is one such function. Assumes nothing.
use mathlib.Core.Path.{◌≡◌, refl, sym, ap, ◌∙◌}
use mathlib.Core.Bool.{true, false}
use mathlib.Core.List.{List}
use mathlib.Core.Option.{Option, none, some}
use Prim.Native.Nat.{ℕ, ◌≤◌}
use native.Mathlib.Omega.{arith}
use lib.Dec.{ltb}
use lib.ListN.{length, get_or, get_or-eq_default}
use borrow.Author.Tests.{ltb-true, ltb-false}
use Rattle.laws.specs.Loops.{set_to}
use Rattle.laws.proofs.Cases.{split}
use Rattle.laws.proofs.Set.{length_set_to, set_at_lem, set_cases}
use Rattle.laws.proofs.Unique.{unique}
use Rattle.model.specs.declared.State.{State}
use Rattle.model.specs.declared.Row.{Row}
use Rattle.model.specs.declared.Answer.{Answer}
use Rattle.model.specs.State.{places, here}
use Rattle.model.specs.Said.{ok, refused, said}
use Rattle.model.specs.Meter.{row_of, no_row, metered_row, metered_rows, meter_refusal, meter_by, metered}
use Rattle.model.proofs.Chain.{here_below, here_tasks}
use Rattle.meter.proofs.Decided.{accepted_enough}

module _ (st : State) (rows : List Row) where
  kept_by : (r : Option ℕ) → (said (meter_by r st rows).0).0 ≡ refused → (meter_by r st rows).1 ≡ rows
  kept_by none e = let z : ◌≡◌ {A = ℕ} 0 1 = cc in absurd (omega arith)
  kept_by (some n) e = refl

  length_by : (r : Option ℕ) → length (meter_by r st rows).1 ≡ length rows
  unfolding metered_rows
  length_by none = length_set_to places (metered_row st rows) rows
  length_by (some n) = refl

  module _ (s : ℕ) where
    stays_by : (r : Option ℕ) → here st s ≡ false → get_or (meter_by r st rows).1 s no_row ≡ get_or rows s no_row
    unfolding metered_rows metered_row
    stays_by none e =
        split
        (ltb s (length rows))
        (λ y. set_cases places s (metered_row st rows) rows no_row (ltb-true s (length rows) y) ∙ split (ltb s places) (λ p. rw (p, e)) (λ p. rw p))
        (λ f.
        let past : length rows ≤ s = ltb-false s (length rows) f in
        get_or-eq_default (set_to places (metered_row st rows) rows) no_row (rw (length_set_to places (metered_row st rows) rows) past)
        ∙ sym (get_or-eq_default rows no_row past))
    stays_by (some n) e = refl

    receives_by
        : (r : Option ℕ) → (r ≡ none → st.tasks ≤ length rows) → (said (meter_by r st rows).0).0 ≡ ok → here st s ≡ true
        → get_or (meter_by r st rows).1 s no_row ≡ row_of st s
    unfolding metered_rows metered_row
    receives_by none enough a e =
        set_at_lem places s (metered_row st rows) rows no_row (here_below st s e) (omega (arith, here_tasks st s e, enough refl)) ∙ rw e
    receives_by (some n) enough a e = let z : ◌≡◌ {A = ℕ} 0 1 = cc in absurd (omega arith)

-- a function of a state and of lent rows, which gives its answer and the rows at exit; and what `fill` ensures of it
abbrev pub Metering : Type 0
Metering = State → List Row → Answer × List Row

abbrev pub Meets : Metering → Type 0
Meets f = (st : State) (rows : List Row) → ((f st rows).0 ≡ (metered st rows).0) × ((f st rows).1 ≡ (metered st rows).1)

module _ (f : Metering) (meets : Meets f) (st : State) (rows : List Row) where
  -- a refusal writes none
  pub refused_writes_nothing : (said (f st rows).0).0 ≡ refused → (f st rows).1 ≡ rows
  unfolding metered
  refused_writes_nothing e =
      (meets st rows).1 ∙ kept_by st rows (meter_refusal st (length rows)) (ap (λ a. (said a).0) (sym (meets st rows).0) ∙ e)

  -- a row of a server in use is that server's
  pub row_received : (s : ℕ) → (said (f st rows).0).0 ≡ ok → here st s ≡ true → get_or (f st rows).1 s no_row ≡ row_of st s
  unfolding metered
  row_received s a e =
      ap (λ l. get_or l s no_row) (meets st rows).1
      ∙ receives_by st rows s (meter_refusal st (length rows)) (accepted_enough st (length rows)) (ap (λ b. (said b).0) (sym (meets st rows).0) ∙ a) e

  -- the others stay, and there are as many as before
  pub others_stay : (s : ℕ) → here st s ≡ false → get_or (f st rows).1 s no_row ≡ get_or rows s no_row
  unfolding metered
  others_stay s e = ap (λ l. get_or l s no_row) (meets st rows).1 ∙ stays_by st rows s (meter_refusal st (length rows)) e

  pub as_many : length (f st rows).1 ≡ length rows
  unfolding metered
  as_many = ap length (meets st rows).1 ∙ length_by st rows (meter_refusal st (length rows))

-- two functions that meet the contract agree on answer and rows, whatever they are given
pub one_metering : (f g : Metering) → Meets f → Meets g → (st : State) (rows : List Row) → f st rows ≡ g st rows
one_metering f g meets also st rows =
    unique
    (λ (x : State × List Row). metered x.0 x.1) (λ x. f x.0 x.1) (λ x. g x.0 x.1)
    (λ x i. ((meets x.0 x.1).0 i, (meets x.0 x.1).1 i)) (λ x i. ((also x.0 x.1).0 i, (also x.0 x.1).1 i)) (st, rows)
