-- What the exported meter rows answer and leave: a law for each way out; that a refusal writes nothing (`meter_keeps`), that a row of a server in use is
-- that server's (`meter_row`), and that what stands past these rows stays (`meter_past`). Assumes nothing.
use mathlib.Core.Path.{◌≡◌, refl, sym, ap₂, ◌∙◌}
use mathlib.Core.List.{List, [], ◌∷◌, ◌++◌}
use mathlib.Core.Option.{Option, none, some}
use Prim.Native.Nat.{ℕ, suc, ◌+◌, ◌*◌, ◌/◌, ◌%◌, ◌<◌, ◌≤◌}
use native.Mathlib.Nat.{zero-add}
use native.Mathlib.Omega.{arith}
use lib.Dec.{eqb}
use lib.ListN.{length, set, drop}
use lib.Seq.{get_or-set_other}
use borrow.Author.Tests.{eq-eqb}
use Rattle.laws.specs.Loops.{join_to}
use Rattle.laws.proofs.Cases.{split}
use Rattle.laws.proofs.Join.{join_long}
use Rattle.lent_bytes.specs.Numbers.{byte_at, one, two, four}
use Rattle.lent_bytes.specs.Writing.{stored}
use Rattle.lent_bytes.proofs.Stands.{Stands, moved, stands_first, stands_part, stands_self}
use Rattle.lent_bytes.proofs.Writing.{stored_first}
use Rattle.model.specs.declared.Answer.{Answer}
use Rattle.model.specs.declared.Row.{Row}
use Rattle.model.specs.declared.State.{State}
use Rattle.model.specs.Said.{ok, refused, said}
use Rattle.model.specs.Meter.{row_of, meter_refusal}
use Rattle.image.specs.Decoded.{decoded}
use Rattle.meter.specs.Decided.{decided_by, decided_on, written}
use Rattle.meter.proofs.Decided.{accepted_counted, accepted_enough, written_fits}
use Rattle.vesztamor.specs.Metering.{meter_row_size, row_bytes, server_row_bytes, metered_bytes, meter_left, meter_of, meter_export}
use Rattle.vesztamor.proofs.Keeps.{Keeps}

pub row_long : (r : Row) → length (row_bytes r) ≡ meter_row_size
unfolding row_bytes one two four
row_long r = refl

pub server_row_long : (st : State) (s : ℕ) → length (server_row_bytes st s) ≡ meter_row_size
unfolding server_row_bytes
server_row_long st s = row_long (row_of st s)

rows_long : (st : State) (n : ℕ) → length (join_to n (server_row_bytes st)) ≡ meter_row_size * n
rows_long st n = join_long (server_row_bytes st) meter_row_size (server_row_long st) n

-- what is decided is what is answered and left
left_by
    : (st : State) (bytes : List ℕ) (lent : ℕ) (r : Option ℕ) → r ≡ meter_refusal st lent
    → meter_left r st bytes ≡ record { answer = said (decided_by r st); bytes = metered_bytes st (written (decided_by r st)) bytes }
unfolding metered_bytes stored join_to
left_by st bytes lent none e = rw (accepted_counted st lent (sym e))
left_by st bytes lent (some n) e = refl

pub meter_some
    : (state bytes : List ℕ) → length bytes % meter_row_size ≡ 0
    → (st : State) → decoded state ≡ some st → (a : Answer) → a ≡ decided_on st (length bytes / meter_row_size) → (n : ℕ) → n ≡ written a
    → meter_export state bytes ≡ record { answer = said a; bytes = metered_bytes st n bytes }
unfolding meter_export decided_on
meter_some state bytes whole st e a d n w = rw (w, d, eq-eqb (length bytes % meter_row_size) 0 whole, e) (left_by st bytes (length bytes / meter_row_size) _ refl)

-- for the code that writes the rows: they fit, and a row is stored where it belongs
pub rows_fit
    : (st : State) (room : ℕ) (a : Answer) → a ≡ decided_on st (room / meter_row_size) → (n : ℕ) → n ≡ written a → meter_row_size * n ≤ room
rows_fit st room a d n w = omega (arith, written_fits st (room / meter_row_size) a n d w)

pub row_stored
    : (l k : List ℕ) (st : State) (s : ℕ) (r : Row) → r ≡ row_of st s → k ≡ stored l (meter_row_size * s) (row_bytes r)
    → k ≡ stored l (0 + meter_row_size * s) (server_row_bytes st s)
unfolding server_row_bytes
row_stored l k st s r e h = h ∙ ap₂ (λ at row. stored l at (row_bytes row)) (sym (zero-add (meter_row_size * s))) e

-- A refusal writes nothing.
left_keeps : (r : Option ℕ) (st : State) (bytes : List ℕ) → Keeps bytes (meter_left r st bytes)
left_keeps none st bytes e = cc
left_keeps (some n) st bytes e = refl

of_keeps : (d : Option State) (bytes : List ℕ) → Keeps bytes (meter_of d bytes)
of_keeps none bytes = λ e. refl
of_keeps (some st) bytes = left_keeps (meter_refusal st (length bytes / meter_row_size)) st bytes

pub meter_keeps : (state bytes : List ℕ) → Keeps bytes (meter_export state bytes)
unfolding meter_export
meter_keeps state bytes =
    split (eqb (length bytes % meter_row_size) 0) (λ y. rw y (of_keeps (decoded state) bytes)) (λ n. rw n (λ e. refl))

-- What stands past the rows of the servers in use stays.
stored_past : (xs l : List ℕ) (at i : ℕ) → at + length xs ≤ i → byte_at (stored l at xs) i ≡ byte_at l i
unfolding stored
stored_past [] l at i h = refl
stored_past (x ∷ xs) l at i h = stored_past xs (set l at x) (suc at) i (omega arith) ∙ get_or-set_other l at i x 0 (λ e. omega arith)

left_past
    : (r : Option ℕ) (st : State) (bytes : List ℕ) (i : ℕ) → meter_row_size * st.tasks ≤ i → byte_at (meter_left r st bytes).bytes i ≡ byte_at bytes i
unfolding metered_bytes
left_past none st bytes i h = stored_past (join_to st.tasks (server_row_bytes st)) bytes 0 i (omega (arith, rows_long st st.tasks))
left_past (some n) st bytes i h = refl

pub meter_past
    : (state bytes : List ℕ) (st : State) → decoded state ≡ some st → (i : ℕ) → meter_row_size * st.tasks ≤ i
    → byte_at (meter_export state bytes).bytes i ≡ byte_at bytes i
unfolding meter_export
meter_past state bytes st e i h =
    split
    (eqb (length bytes % meter_row_size) 0)
    (λ y. rw (y, e) (left_past (meter_refusal st (length bytes / meter_row_size)) st bytes i h))
    (λ n. rw n)

-- A row of a server in use has that server's bytes.
left_row
    : (r : Option ℕ) (st : State) (bytes : List ℕ) (lent : ℕ) → r ≡ meter_refusal st lent → meter_row_size * lent ≤ length bytes
    → (meter_left r st bytes).answer.0 ≡ ok → (s : ℕ) → s < st.tasks
    → Stands (server_row_bytes st s) (meter_left r st bytes).bytes (meter_row_size * s)
unfolding metered_bytes
left_row none st bytes lent e fits a s l =
    let rows = join_to st.tasks (server_row_bytes st) in
    let rest = drop (length rows) bytes in
    moved (server_row_bytes st s) (stored bytes 0 rows) (0 + meter_row_size * s) (meter_row_size * s) (zero-add _)
    (rw (stored_first bytes rows (omega (arith, rows_long st st.tasks, accepted_enough st lent (sym e))))
    (stands_part (server_row_bytes st) meter_row_size (server_row_long st) st.tasks s (rows ++ rest) 0 l (stands_first rows rest (rows ++ rest) 0 (stands_self (rows ++ rest)))))
left_row (some n) st bytes lent e fits a s l = cc

pub meter_row
    : (state bytes : List ℕ) (st : State) → decoded state ≡ some st → (meter_export state bytes).answer.0 ≡ ok → (s : ℕ) → s < st.tasks
    → Stands (server_row_bytes st s) (meter_export state bytes).bytes (meter_row_size * s)
unfolding meter_export
meter_row state bytes st e a s l =
    split
    (eqb (length bytes % meter_row_size) 0)
    (λ y. rw (y, e) (left_row (meter_refusal st (length bytes / meter_row_size)) st bytes (length bytes / meter_row_size) refl (omega arith) (rw (y, e) at a) s l))
    (λ n.
    let q : refused ≡ ok = rw n at a in cc)
