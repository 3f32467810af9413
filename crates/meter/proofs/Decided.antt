-- What the walk over lent rows decides and stores is the metering of rule 9: the answer, the rows that are written, and that a refusal writes none.
-- In a sound state the numbers in use are those below the tasks, so that the first rows, as many as tasks, are the rows of the numbers in use.
-- Assumes nothing.
use Rattle.std.specs.Prelude.{if◌then◌else◌, ⊤, Result, Err}
use Rattle.std.specs.Prelude as std
use mathlib.Core.Path.{◌≡◌, refl, sym, ap, ◌∙◌}
use mathlib.Core.Bool.{true, false, not}
use mathlib.Core.List.{List, ◌++◌}
use mathlib.Core.Option.{Option, none, some}
use Prim.Native.Nat.{ℕ, zero, suc, ◌<◌, ◌≤◌, min}
use native.Mathlib.Omega.{arith}
use lib.Dec.{ltb}
use lib.ListN.{length, get_or, set, take, drop}
use lib.Seq.{ext_get_or}
use Rattle.std.proofs.lemmas.List.{set-append_left, length-take-le, take-append-drop}
use borrow.Author.Tests.{lt-ltb, le-ltb, ltb-true, ltb-false, not-false}
use Rattle.laws.specs.Tests.{first_of}
use Rattle.laws.specs.Loops.{count_to, set_to}
use Rattle.laws.proofs.Cases.{split, none_fails, none_later}
use Rattle.laws.proofs.Count.{count_ext}
use Rattle.laws.proofs.Set.{length_set_to, set_done, set_cases}
use Rattle.model.specs.declared.State.{State}
use Rattle.model.specs.declared.Row.{Row}
use Rattle.model.specs.declared.Answer.{Answer}
use Rattle.model.specs.declared.Answer.TheVariants.{Ok, Refused}
use Rattle.model.specs.declared.refusals.Refusal.{Refusal}
use Rattle.model.specs.State.{places, here}
use Rattle.model.specs.Sound.{sound}
use Rattle.model.specs.Refusals.{refusal_no, numbered}
use Rattle.model.specs.Verdicts.{verdict}
use Rattle.model.specs.Said.{said}
use Rattle.model.specs.Meter.{row_of, no_row, metered_row, metered_rows, meter_refusal, meter_by, metered}
use Rattle.model.proofs.Refused.{passed_none, refused_some}
use Rattle.model.proofs.Sound.{sound_facts}
use Rattle.meter.specs.Decided.{decided_by, decided_on, written, meter_said}

-- of the numbers below n, as many are below m as m says, or all
count_below : (n m : ℕ) → count_to n (λ i. ltb i m) ≡ min n m
unfolding count_to
count_below zero m = omega arith
count_below (suc n) m =
    split
    (ltb n m)
    (λ y. rw y (omega (arith, ltb-true n m y, count_below n m)))
    (λ f. rw f (omega (arith, ltb-false n m f, count_below n m)))

module _ (st : State) (fit : st.tasks ≤ places) where
  here_is : (i : ℕ) → here st i ≡ ltb i st.tasks
  unfolding here
  here_is i = split (ltb i places) (λ y. rw y) (λ f. rw (f, le-ltb i st.tasks (omega (arith, ltb-false i places f))))

  tasks_counted : count_to places (here st) ≡ st.tasks
  tasks_counted = omega (arith, count_ext places (here st) _ (λ i l. here_is i), count_below places st.tasks)

  row_chosen
      : (rows : List Row) (i : ℕ)
      → (if ltb i st.tasks then row_of st i else get_or rows i no_row) ≡ (if ltb i places then metered_row st rows i else get_or rows i no_row)
  unfolding metered_row
  row_chosen rows i =
      split
      (ltb i places)
      (λ y. rw (y, here_is i))
      (λ f. rw (f, le-ltb i st.tasks (omega (arith, ltb-false i places f))))

  rows_chosen : (rows : List Row) → set_to st.tasks (row_of st) rows ≡ metered_rows st rows
  unfolding metered_rows
  rows_chosen rows =
      ext_get_or no_row _ _ (length_set_to _ _ rows ∙ sym (length_set_to _ _ rows))
      (λ i l.
      let m : i < length rows = omega (arith, length_set_to st.tasks (row_of st) rows) in
      set_cases _ i _ rows no_row m ∙ row_chosen rows i ∙ sym (set_cases _ i _ rows no_row m))

sound_fit : (st : State) → sound st ≡ true → st.tasks ≤ places
sound_fit st e = ((sound_facts st).holds e).is_loose.tasks_most

-- in a sound state as many rows are written as there are tasks
pub sound_counted : (st : State) → sound st ≡ true → count_to places (here st) ≡ st.tasks
sound_counted st e = tasks_counted st (sound_fit st e)

module _ (st : State) (lent : ℕ) where
  -- the three ways that metering goes
  pub refused_unsound : sound st ≡ false → meter_refusal st lent ≡ some 1
  unfolding meter_refusal first_of
  refused_unsound e = rw e

  pub refused_few : sound st ≡ true → lent < st.tasks → meter_refusal st lent ≡ some 22
  unfolding meter_refusal first_of
  refused_few e l = rw (e, lt-ltb lent st.tasks l)

  pub refused_none : sound st ≡ true → st.tasks ≤ lent → meter_refusal st lent ≡ none
  unfolding meter_refusal first_of
  refused_none e l = rw (e, le-ltb lent st.tasks l)

  accepted_fit : meter_refusal st lent ≡ none → st.tasks ≤ places
  unfolding meter_refusal
  accepted_fit e = sound_fit st (not-false _ (none_fails 1 (not (sound st)) _ e))

  pub accepted_enough : meter_refusal st lent ≡ none → st.tasks ≤ lent
  unfolding meter_refusal
  accepted_enough e = ltb-false lent st.tasks (none_fails 22 (ltb lent st.tasks) _ (none_later 1 (not (sound st)) _ e))

  -- what is accepted writes as many rows as there are tasks; no answer writes more than are lent
  pub accepted_counted : meter_refusal st lent ≡ none → count_to places (here st) ≡ st.tasks
  accepted_counted e = tasks_counted st (accepted_fit e)

  -- what the test of the two refusals returned, as an answer
  module _ (tested : Result ⊤ Refusal) (told : numbered tested ≡ verdict (meter_refusal st lent)) where
    pub decided_ok : tested ≡ std.Ok tt → Ok st.tasks ≡ decided_on st lent
    unfolding decided_on
    decided_ok e =
        let passed : meter_refusal st lent ≡ none = passed_none _ tested tt told e in
        rw (passed, accepted_counted passed) refl

    pub decided_refused : (refusal : Refusal) → tested ≡ Err refusal → Refused (refusal_no refusal) ≡ decided_on st lent
    unfolding decided_on
    decided_refused refusal e = rw (refused_some _ tested refusal told e) refl

  written_by : (r : Option ℕ) → r ≡ meter_refusal st lent → written (decided_by r st) ≤ lent
  written_by none e = rw (accepted_counted (sym e)) (accepted_enough (sym e))
  written_by (some n) e = omega arith

  pub written_fits : (a : Answer) (n : ℕ) → a ≡ decided_on st lent → n ≡ written a → n ≤ lent
  unfolding decided_on
  written_fits a n e w = rw (w, e) (written_by (meter_refusal st lent) refl)

-- places set in the first n rows, lent as a part, are set in the whole
module _ {A : Type 0} (f : ℕ → A) where
  set_front : (n : ℕ) (xs ys : List A) → n ≤ length xs → set_to n f (xs ++ ys) ≡ set_to n f xs ++ ys
  unfolding set_to
  set_front zero xs ys l = refl
  set_front (suc n) xs ys l =
      ap (λ zs. set zs n (f n)) (set_front n xs ys (omega arith))
      ∙ set-append_left (set_to n f xs) ys n (f n) (omega (arith, length_set_to n f xs))

  pub set_taken
      : (n i : ℕ) (xs zs : List A)
      → n ≤ length xs
      → i ≤ length (take n xs)
      → length (take n xs) ≤ i
      → zs ≡ set_to i f (take n xs)
      → zs ++ drop n xs ≡ set_to n f xs
  set_taken n i xs zs l m g h =
      let long : length (take n xs) ≡ n = length-take-le n xs l in
      ap (λ ys. ys ++ drop n xs) (set_done f i n (take n xs) zs (omega arith) (omega arith) h)
      ∙ sym (set_front n (take n xs) (drop n xs) (omega arith))
      ∙ ap (set_to n f) (take-append-drop n xs)

module _ (st : State) (rows : List Row) where
  answer_by_lem : (r : Option ℕ) → decided_by r st ≡ (meter_by r st rows).0
  answer_by_lem none = refl
  answer_by_lem (some n) = refl

  rows_by : (r : Option ℕ) → (r ≡ none → st.tasks ≤ places) → set_to (written (decided_by r st)) (row_of st) rows ≡ (meter_by r st rows).1
  unfolding set_to
  rows_by none fit = rw (tasks_counted st (fit refl)) (rows_chosen st (fit refl) rows)
  rows_by (some n) fit = refl

  -- what is decided is what metering answers, says and writes
  pub answer_is : decided_on st (length rows) ≡ (metered st rows).0
  unfolding decided_on metered
  answer_is = answer_by_lem (meter_refusal st (length rows))

  pub rows_are : (a : Answer) (n : ℕ) → a ≡ decided_on st (length rows) → n ≡ written a → set_to n (row_of st) rows ≡ (metered st rows).1
  unfolding decided_on metered
  rows_are a n e w = rw (w, e) (rows_by (meter_refusal st (length rows)) (accepted_fit st (length rows)))

pub said_is : (st : State) (lent : ℕ) → said (decided_on st lent) ≡ meter_said st lent
unfolding decided_on meter_said
said_is st lent =
    split
    (sound st)
    (λ y.
    split
    (ltb lent st.tasks)
    (λ f. rw (refused_few st lent y (ltb-true _ _ f), y, f))
    (λ n. rw (refused_none st lent y (ltb-false _ _ n), y, n, sound_counted st y)))
    (λ u. rw (refused_unsound st lent u, u))
