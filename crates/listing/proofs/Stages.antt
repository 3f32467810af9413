-- The table's stages: the ways out of the counts, and of a task's line: the part that is read is not refused, and the text from here is the text from the
-- file's start. Assumes nothing.
use mathlib.Core.Path.{◌≡◌, refl, sym, ap, ◌∙◌}
use mathlib.Core.Bool.{true}
use mathlib.Core.List.{List}
use mathlib.Core.Option.{none, some}
use Prim.Native.Nat.{ℕ, ◌+◌, ◌<◌, ◌≤◌}
use native.Mathlib.Nat.{le_antisymm}
use native.Mathlib.Omega.{arith}
use borrow.Author.Tests.{eq-eqb, ne_eqb}
use Rattle.std.specs.Prelude.{⊤, Result, Ok, Err}
use Rattle.model.specs.declared.Entry.{Entry}
use Rattle.model.specs.declared.Table.{Table}
use Rattle.model.specs.declared.State.{State}
use Rattle.model.specs.declared.refusals.Refusal.{Refusal}
use Rattle.model.specs.Refusals.{refusal_no, numbered}
use Rattle.model.specs.Sound.{counts_fit}
use Rattle.model.specs.Fresh.{counts_refusal, entry_refusal, fresh_refusal, fresh_state, fresh_of}
use Rattle.fresh.proofs.Fresh.{fresh_shaped, fresh_sound}
use Rattle.fresh.proofs.Refusals.{counts_fit_lem}
use Rattle.trace.specs.declared.Place.{Place}
use Rattle.trace.specs.declared.Record.{Record}
use Rattle.trace.specs.declared.Record.TheVariants.{Counts, Reservation}
use Rattle.trace.specs.Reading.{got, read_at}
use Rattle.trace.specs.Order.{entering, counted_table, with_entry}
use Rattle.trace.proofs.Items.{read_moves}
use Rattle.listing.specs.Listing.{beginning, stop_line, started}
use Rattle.listing.specs.Computed.{text_from, table_record, counts_alone, Begun, Refuses, TableRead}
use Rattle.listing.proofs.Texts.{text_refused, text_counts, text_entry}
use Rattle.listing.proofs.Otherwise.{table_unread, not_counts, not_entry}
use Rattle.listing.proofs.Tables.{first, counts_tasks, counts_tested, entered_none, entered_more, entry_tested, fresh_refused, fresh_made, fresh_state_lem, whole_accepted}
use Rattle.listing.proofs.SoFar.{running_is}

-- what fresh answers, with its refusal by name
module _ (tb : Table) (a : Result ⊤ Refusal) (asked : numbered a ≡ (fresh_of tb).answer) where
  pub tells : (e : Refusal) → a ≡ Err e → fresh_refusal tb ≡ some (refusal_no e)
  unfolding fresh_of
  tells e f = fresh_refused tb _ (refusal_no e) (sym asked ∙ ap numbered f)

  pub takes : a ≡ Ok tt → fresh_refusal tb ≡ none
  unfolding fresh_of
  takes f = fresh_made tb _ (sym asked ∙ ap numbered f)

module _ (file : List ℕ) where
  pub counts_unread : (n : ℕ) → Err n ≡ table_record (read_at file 0) → stop_line 0 n ≡ text_from file beginning 0
  counts_unread n u = table_unread file 0 beginning _ n refl refl u

  pub counts_wrong
      : (x : Record) (q : Place) → read_at file 0 ≡ got x q → ((a b c : ℕ) → x ≡ Counts a b c → ⊥) → stop_line 0 32 ≡ text_from file beginning 0
  counts_wrong x q g o = sym (text_refused file 0 beginning q x 32 g (not_counts x o))

  module _ (p t r : ℕ) (q : Place) (g : read_at file 0 ≡ got (Counts p t r) q) (a : Result ⊤ Refusal) (asked : numbered a ≡ (fresh_of (counts_alone p t r)).answer) where
    pub counts_refused : (e : Refusal) → a ≡ Err e → Refuses file 0 e
    counts_refused e f =
        sym (text_refused file 0 beginning q (Counts p t r) (refusal_no e) g (sym (counts_tested p t r) ∙ tells (counts_alone p t r) a asked e f))

    pub counts_taken : a ≡ Ok tt → Begun file (counted_table p t r) q.at 0
    counts_taken f =
        let none_told : counts_refusal (counted_table p t r) ≡ none = sym (counts_tested p t r) ∙ takes (counts_alone p t r) a asked f in
        let fit : counts_fit p t r ≡ true = counts_fit_lem (counted_table p t r) none_told in
        record {
          entered = entered_none p t r fit;
          inside = (read_moves file 0 (Counts p t r) q g).1;
          same =
              rw (ne_eqb 0 t (λ z. omega (arith, (counts_tasks p t r fit).0)))
              (sym (text_counts file 0 beginning q p t r g none_told));
        }

module _ {file : List ℕ} {tb : Table} {at k : ℕ} (h : Begun file tb at k) where
  -- where there is still an entry to read
  pub begun_text : k < tb.tasks → text_from file (started (entering tb k)) at ≡ text_from file beginning 0
  begun_text l = rw (ne_eqb k tb.tasks (λ q. omega arith)) at h.same

  -- the ways to stop there
  module _ (l : k < tb.tasks) where
    pub begun_unread : (n : ℕ) → Err n ≡ table_record (read_at file at) → stop_line at n ≡ text_from file beginning 0
    begun_unread n u = table_unread file at (started (entering tb k)) _ n refl refl u ∙ begun_text l

    pub begun_wrong
        : (x : Record) (q : Place) → read_at file at ≡ got x q → ((e : Entry) → x ≡ Reservation e → ⊥) → stop_line at 32 ≡ text_from file beginning 0
    begun_wrong x q g o = sym (text_refused file at (started (entering tb k)) q x 32 g (not_entry tb k x o)) ∙ begun_text l

    module _
        (e : Entry) (q : Place) (g : read_at file at ≡ got (Reservation e) q)
        (a : Result ⊤ Refusal) (asked : numbered a ≡ (fresh_of (first (k + 1) (with_entry tb k e))).answer)
      where
        pub begun_refused : (n : Refusal) → a ≡ Err n → Refuses file at n
        begun_refused n f =
            sym (text_refused file at (started (entering tb k)) q (Reservation e) (refusal_no n) g
            (sym (entry_tested tb k e h.entered l) ∙ tells (first (k + 1) (with_entry tb k e)) a asked n f))
            ∙ begun_text l

        -- or to go on
        pub begun_more : a ≡ Ok tt → Begun file (with_entry tb k e) q.at (k + 1)
        begun_more f =
            let taken : entry_refusal tb.resources e ≡ none = sym (entry_tested tb k e h.entered l) ∙ takes (first (k + 1) (with_entry tb k e)) a asked f in
            record {
              entered = entered_more tb k e h.entered l taken;
              inside = (read_moves file at (Reservation e) q g).1;
              same = sym (text_entry file at (started (entering tb k)) q e g taken) ∙ begun_text l;
            }

  -- where all are read the replay begins, with a sound state
  pub begun_done : tb.tasks ≤ k → (st : State) → st ≡ (fresh_of tb).state → TableRead file st at
  begun_done l st e =
      let all : k ≡ tb.tasks = le_antisymm h.entered.most l in
      let accepted : fresh_refusal tb ≡ none = whole_accepted tb (rw all at h.entered) in
      let is : st ≡ fresh_state tb = e ∙ fresh_state_lem tb accepted in
      record {
        inside = h.inside;
        shaped = rw is (fresh_shaped tb, fresh_sound tb accepted);
        same = rw is (sym (running_is file tb (fresh_state tb) 0 at) ∙ (rw (eq-eqb k tb.tasks all) at h.same));
      }
