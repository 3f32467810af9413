-- The text from a place on, by what is read there: a law for each way that a replay can go on. Assumes nothing.
use mathlib.Core.Path.{◌≡◌, ap, ◌∙◌}
use mathlib.Core.List.{List, ◌++◌}
use mathlib.Core.Option.{none, some}
use Prim.Native.Nat.{ℕ, ◌+◌}
use Rattle.model.specs.declared.Entry.{Entry}
use Rattle.model.specs.declared.Event.{Event}
use Rattle.model.specs.Step.{stepped}
use Rattle.trace.specs.declared.Place.{Place}
use Rattle.trace.specs.declared.Record.{Record}
use Rattle.trace.specs.declared.Record.TheVariants.{Counts, Reservation, Happening}
use Rattle.trace.specs.Reading.{Read, got, ended, fault, read_at, items_after, items_at}
use Rattle.trace.specs.Order.{order_refusal, advanced}
use Rattle.trace.proofs.Items.{items_is}
use Rattle.listing.specs.Listing.{Progress, started, continued, event_line, stop_line, end_text, record_text, read_text, items_text}
use Rattle.listing.specs.Computed.{text_from}

module _ (file : List ℕ) (at : ℕ) where
  -- what is read at the place decides
  text_reads : (p : Progress) (r : Read) → read_at file at ≡ r → text_from file p at ≡ read_text (items_text (items_after (items_at file) r)) p at r
  unfolding text_from items_text
  text_reads p r e =
      ap (λ l. items_text l p) (items_is file at) ∙ ap (λ q. read_text (items_text (items_after (items_at file) q)) p at q) e

  pub text_end : (p : Progress) → read_at file at ≡ ended → text_from file p at ≡ end_text p.stage p.state at
  text_end p e = text_reads p ended e

  pub text_fault : (p : Progress) (n : ℕ) → read_at file at ≡ fault n → text_from file p at ≡ stop_line at n
  text_fault p n e = text_reads p (fault n) e

  module _ (p : Progress) (q : Place) where
    -- a record, by the refusal that it meets where it stands
    text_got
        : (r : Record) → read_at file at ≡ got r q
        → text_from file p at ≡ record_text (λ next. text_from file next q.at) p at (order_refusal p.stage r) r
    unfolding text_from
    text_got r e = text_reads p (got r q) e

    pub text_refused
        : (r : Record) (n : ℕ) → read_at file at ≡ got r q → order_refusal p.stage r ≡ some n → text_from file p at ≡ stop_line at n
    text_refused r n e f = text_got r e ∙ ap (λ o. record_text (λ next. text_from file next q.at) p at o r) f

    pub text_counts
        : (a b c : ℕ) → read_at file at ≡ got (Counts a b c) q → order_refusal p.stage (Counts a b c) ≡ none
        → text_from file p at ≡ text_from file (started (advanced p.stage (Counts a b c))) q.at
    text_counts a b c e f = text_got (Counts a b c) e ∙ ap (λ o. record_text (λ next. text_from file next q.at) p at o (Counts a b c)) f

    pub text_entry
        : (x : Entry) → read_at file at ≡ got (Reservation x) q → order_refusal p.stage (Reservation x) ≡ none
        → text_from file p at ≡ text_from file (started (advanced p.stage (Reservation x))) q.at
    text_entry x e f = text_got (Reservation x) e ∙ ap (λ o. record_text (λ next. text_from file next q.at) p at o (Reservation x)) f

    pub text_event
        : (x : Event) → read_at file at ≡ got (Happening x) q → order_refusal p.stage (Happening x) ≡ none
        → text_from file p at ≡ event_line (p.events + 1) (stepped p.state x).answer ++ text_from file (continued p x) q.at
    text_event x e f = text_got (Happening x) e ∙ ap (λ o. record_text (λ next. text_from file next q.at) p at o (Happening x)) f
