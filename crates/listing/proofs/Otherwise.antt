-- What is known where a record of the table cannot be read, and in the `else` of a `let .. else` on a record: it is one of the other two. Assumes
-- nothing.
use mathlib.Core.Path.{◌≡◌, refl, sym, ◌∙◌}
use mathlib.Core.List.{List}
use mathlib.Core.Option.{some}
use Prim.Native.Nat.{ℕ}
use native.Mathlib.Omega.{arith}
use Rattle.std.specs.Prelude.{Ok, Err, Some, None}
use Rattle.model.specs.declared.Entry.{Entry}
use Rattle.model.specs.declared.Event.{Event}
use Rattle.model.specs.declared.Table.{Table}
use Rattle.trace.specs.declared.Place.{Place}
use Rattle.trace.specs.declared.Record.{Record}
use Rattle.trace.specs.declared.Record.TheVariants.{Counts, Reservation, Happening}
use Rattle.trace.specs.Reading.{Read, got, read_at}
use Rattle.trace.specs.Order.{opening, entering, complete, order_refusal}
use Rattle.listing.specs.Listing.{Progress, stop_line, end_text}
use Rattle.listing.specs.Computed.{text_from, table_record}
use Rattle.listing.proofs.Texts.{text_end, text_fault}

-- a record of the table
pub table_found : (x : Read) (r : Record) (q : Place) → Ok (r, q) ≡ table_record x → x ≡ got r q
table_found (Ok (Some found)) r q e = cc
table_found (Ok None) r q e = grind arith
table_found (Err m) r q e = grind arith

-- no record while the table is read
pub table_unread
    : (file : List ℕ) (at : ℕ) (p : Progress) (x : Read) (n : ℕ)
    → end_text p.stage p.state at ≡ stop_line at 32
    → read_at file at ≡ x → Err n ≡ table_record x → stop_line at n ≡ text_from file p at
table_unread file at p (Ok (Some found)) n t e u = grind arith
table_unread file at p (Ok None) n t e u = let m : n ≡ 32 = cc in rw m (sym (text_end file at p e ∙ t))
table_unread file at p (Err m) n t e u = let k : m ≡ n = cc in rw (← k) (sym (text_fault file at p m e))

-- the wrong record for where it stands
pub not_counts : (r : Record) → ((a b c : ℕ) → r ≡ Counts a b c → ⊥) → order_refusal opening r ≡ some 32
not_counts (Counts a b c) h = absurd (h a b c refl)
not_counts (Reservation x) h = refl
not_counts (Happening x) h = refl

pub not_entry : (tb : Table) (k : ℕ) (r : Record) → ((x : Entry) → r ≡ Reservation x → ⊥) → order_refusal (entering tb k) r ≡ some 32
not_entry tb k (Counts a b c) h = refl
not_entry tb k (Reservation x) h = absurd (h x refl)
not_entry tb k (Happening x) h = refl

pub not_event : (tb : Table) (r : Record) → ((x : Event) → r ≡ Happening x → ⊥) → order_refusal (complete tb) r ≡ some 32
not_event tb (Counts a b c) h = refl
not_event tb (Reservation x) h = refl
not_event tb (Happening x) h = absurd (h x refl)
