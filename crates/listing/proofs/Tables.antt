-- What reading a table finds. Fresh, asked of the counts alone and then of the table so far, refuses what the definitions refuse record by record; and
-- it never refuses a table that was read whole without a refusal (`whole_accepted`). Assumes nothing.
use mathlib.Core.Path.{◌≡◌, refl, ap, ◌∙◌}
use mathlib.Core.Bool.{true}
use mathlib.Core.Option.{Option, none, some}
use mathlib.Core.Logic.{⊎_elim}
use Prim.Native.Nat.{ℕ, zero, suc, ◌+◌, ◌<◌, ◌≤◌, ◌^◌}
use native.Mathlib.Numerals.{add-one}
use native.Mathlib.Omega.{arith}
use lib.Dec.{ltb}
use lib.Pow.{pow_pos}
use lib.ListN.{get_or-replicate, length-set}
use lib.Seq.{get_or-set_same, get_or-set_other}
use borrow.Author.Tests.{lt-ltb, le-ltb, ltb-true}
use Rattle.std.specs.Prelude.{Ok, Err}
use Rattle.laws.specs.Tests.{first_of}
use Rattle.laws.specs.Loops.{fold_to}
use Rattle.laws.proofs.Cases.{split, or_none}
use Rattle.laws.proofs.Fold.{fold_keeps, last_or_below}
use Rattle.model.specs.declared.Entry.{Entry}
use Rattle.model.specs.declared.Table.{Table}
use Rattle.model.specs.State.{places}
use Rattle.model.specs.Sound.{counts_fit}
use Rattle.model.specs.Fresh.{no_entry, entry_at, counts_refusal, entry_refusal, task_refusal, fresh_refusal, fresh_state, fresh_by, fresh_of}
use Rattle.model.proofs.Sound.{counts_fact}
use Rattle.fresh.proofs.Refusals.{refused_stays, counts_refused, counts_accepted}
use Rattle.trace.specs.Order.{counted_table, with_entry}
use Rattle.listing.specs.Computed.{blameless, counts_alone, Entered}

-- the first tasks of a table
abbrev pub first : ℕ → Table → Table
first k tb = record { processors = tb.processors; tasks = k; resources = tb.resources; entry = tb.entry }

pub counts_tasks : (p t r : ℕ) → counts_fit p t r ≡ true → (1 ≤ t) × (t ≤ places)
counts_tasks p t r e = let f = (counts_fact p t r).holds e in (f.0.0.1, f.0.1)

-- what was refused stays refused, and what no task refuses is not refused
none_refused
    : (tb : Table) (n : ℕ) → ((i : ℕ) → i < n → i < tb.tasks → entry_refusal tb.resources (entry_at tb i) ≡ none)
    → fold_to n (task_refusal tb) none ≡ none
unfolding task_refusal
none_refused tb n h =
    fold_keeps (λ x. x ≡ none) (task_refusal tb) n
    (λ i l x p. rw p (split (ltb i tb.tasks) (λ y. rw y (h i l (ltb-true _ _ y))) (λ y. rw y)))
    none refl

-- the test of the counts alone
blameless_accepted : (r : ℕ) → entry_refusal r blameless ≡ none
unfolding entry_refusal first_of
blameless_accepted r = rw (lt-ltb 0 (2 ^ r) (pow_pos r))

pub counts_tested : (p t r : ℕ) → fresh_refusal (counts_alone p t r) ≡ counts_refusal (counted_table p t r)
unfolding fresh_refusal
counts_tested p t r =
    split
    (counts_fit p t r)
    (λ y.
    rw (counts_accepted (counts_alone p t r) y, counts_accepted (counted_table p t r) y)
    (none_refused (counts_alone p t r) places (λ i l m. rw (get_or-replicate places i blameless no_entry l) (blameless_accepted r))))
    (λ n. rw (counts_refused (counts_alone p t r) n, counts_refused (counted_table p t r) n) (refused_stays (counts_alone p t r) places 19))

pub whole_accepted : (tb : Table) → Entered tb tb.tasks → fresh_refusal tb ≡ none
unfolding fresh_refusal
whole_accepted tb h = rw (counts_accepted tb h.fit) (none_refused tb places (λ i l m. h.good i m))

pub entered_none : (p t r : ℕ) → counts_fit p t r ≡ true → Entered (counted_table p t r) 0
entered_none p t r e = record { fit = e; most = omega arith; whole = refl; good = λ i l. absurd (omega arith) }

module _ (tb : Table) (k : ℕ) (e : Entry) (h : Entered tb k) (l : k < tb.tasks) where
  tasks_most : tb.tasks ≤ places
  tasks_most = (counts_tasks tb.processors tb.tasks tb.resources h.fit).1

  new_entry : entry_at (with_entry tb k e) k ≡ e
  new_entry = get_or-set_same tb.entry k e no_entry (omega (arith, tasks_most, h.whole))

  old_entry : (i : ℕ) → i < k → entry_at (with_entry tb k e) i ≡ entry_at tb i
  old_entry i m = get_or-set_other tb.entry k i e no_entry (λ q. omega arith)

  old_good : (i : ℕ) → i < k → entry_refusal tb.resources (entry_at (with_entry tb k e) i) ≡ none
  old_good i m = ap (entry_refusal tb.resources) (old_entry i m) ∙ h.good i m

  pub entered_more : entry_refusal tb.resources e ≡ none → Entered (with_entry tb k e) (k + 1)
  entered_more g =
      record {
        fit = h.fit;
        most = omega arith;
        whole = length-set tb.entry k e ∙ h.whole;
        good = λ i m.
            ⊎_elim
            (λ (q : i ≡ k). rw q (ap (entry_refusal tb.resources) new_entry ∙ g))
            (λ (q : i < k). old_good i q)
            (last_or_below i k (rw add-one at m));
      }

  -- the table so far, this entry its last
  abbrev so_far : Table
  so_far = first (k + 1) (with_entry tb k e)

  refusal_to_lem : (j : ℕ) → k < j → fold_to j (task_refusal so_far) none ≡ entry_refusal tb.resources e
  unfolding fold_to task_refusal
  refusal_to_lem zero m = absurd (omega arith)
  refusal_to_lem (suc j) m =
      ⊎_elim
      (λ (q : k ≡ j).
      rw (← q)
      (rw (none_refused so_far k (λ i a b. old_good i a), lt-ltb k (k + 1) (omega arith), new_entry)))
      (λ (q : k < j). rw (refusal_to_lem j q, le-ltb j (k + 1) (omega arith)) (or_none _))
      (last_or_below k j m)

  pub entry_tested : fresh_refusal so_far ≡ entry_refusal tb.resources e
  unfolding fresh_refusal
  entry_tested =
      let f = (counts_fact tb.processors tb.tasks tb.resources).holds h.fit in
      rw (counts_accepted so_far ((counts_fact tb.processors (k + 1) tb.resources).test ((((f.0.0.0.0, f.0.0.0.1), omega arith), omega (arith, tasks_most)), f.1)))
      (refusal_to_lem places (omega (arith, tasks_most)))

-- what fresh's answer says of its refusal
pub fresh_refused : (tb : Table) (o : Option ℕ) (n : ℕ) → (fresh_by o tb).answer ≡ Err n → o ≡ some n
fresh_refused tb none n e = grind arith
fresh_refused tb (some m) n e = cc

pub fresh_made : (tb : Table) (o : Option ℕ) → (fresh_by o tb).answer ≡ Ok tt → o ≡ none
fresh_made tb none e = refl
fresh_made tb (some m) e = grind arith

pub fresh_state_lem : (tb : Table) → fresh_refusal tb ≡ none → (fresh_of tb).state ≡ fresh_state tb
unfolding fresh_of
fresh_state_lem tb e = rw e
