-- What the loop over the events keeps: the text so far is stored, with what is still to come it is the whole, and the state is sound, so that each step
-- may be made without the test for that. Assumes nothing.
use mathlib.Core.Path.{◌≡◌, refl, sym, ap, ◌∙◌}
use mathlib.Core.Bool.{true}
use mathlib.Core.List.{List, [], ◌∷◌, ◌++◌, append_assoc}
use Prim.Native.Nat.{ℕ, ◌+◌, ◌*◌, ◌≤◌}
use native.Mathlib.Omega.{arith}
use lib.ListN.{length}
use Rattle.std.specs.Prelude.{Ok, Err, Some, None}
use Rattle.model.specs.declared.Table.{Table}
use Rattle.model.specs.declared.State.{State}
use Rattle.model.specs.declared.Event.{Event}
use Rattle.model.specs.declared.Outcome.{Outcome}
use Rattle.model.specs.Shape.{Shaped}
use Rattle.model.specs.Sound.{sound}
use Rattle.model.specs.Step.{attempted, stepped}
use Rattle.theory.proofs.Outcomes.{stepped_sound}
use Rattle.theory.proofs.Soundness.{kept}
use Rattle.trace.specs.declared.Place.{Place}
use Rattle.trace.specs.declared.Record.TheVariants.{Counts, Reservation, Happening}
use Rattle.trace.specs.Reading.{Read, got, read_at, items_at}
use Rattle.trace.specs.Order.{complete, counted_table}
use Rattle.trace.proofs.Items.{read_moves}
use Rattle.listing.specs.Text.{event_line_most}
use Rattle.listing.specs.Listing.{Progress, event_line, read_text, items_text}
use Rattle.listing.specs.Replay.{room_each, room_more, room}
use Rattle.listing.specs.Computed.{text_from, running, Listed}
use Rattle.listing.specs.declared.writer.Writer.{Writer}
use Rattle.listing.specs.Writer.{HasRoom, Writes}
use Rattle.listing.proofs.Writing.{writes_none, writes_then, writes_most}
use Rattle.listing.proofs.Texts.{text_event}

-- past the table the text does not depend on it
abbrev past : Table → State → ℕ → Progress
past tb st n = record { stage = complete tb; state = st; events = n }

rest_same
    : (rest : Progress → List ℕ) (at : ℕ) (r : Read) (tb u : Table) (st : State) (n : ℕ)
    → ((s : State) (m : ℕ) → rest (past tb s m) ≡ rest (past u s m))
    → read_text rest (past tb st n) at r ≡ read_text rest (past u st n) at r
rest_same rest at (Ok (Some (Counts a b c, q))) tb u st n h = refl
rest_same rest at (Ok (Some (Reservation e, q))) tb u st n h = refl
rest_same rest at (Ok (Some (Happening e, q))) tb u st n h = ap (λ l. event_line (n + 1) (stepped st e).answer ++ l) (h (stepped st e).state (n + 1))
rest_same rest at (Ok None) tb u st n h = refl
rest_same rest at (Err k) tb u st n h = refl

table_gone : (is : List (ℕ × Read)) (tb u : Table) (st : State) (n : ℕ) → items_text is (past tb st n) ≡ items_text is (past u st n)
unfolding items_text
table_gone [] tb u st n = refl
table_gone (i ∷ is) tb u st n = rest_same (items_text is) i.0 i.1 tb u st n (table_gone is tb u)

pub running_is : (file : List ℕ) (tb : Table) (st : State) (n at : ℕ) → text_from file (past tb st n) at ≡ text_from file (running st n) at
unfolding text_from
running_is file tb st n at = table_gone (items_at file at) tb (counted_table 0 0 0) st n

pub record SoFar (file : List ℕ) (lent : Writer) (from : ℕ) (fresh : State) (out : Writer) (at : ℕ) (st : State) (events : ℕ) : Type 0 where
  pub text : List ℕ
  pub inside : at ≤ length file
  pub numbered : events ≤ at
  pub writes : Writes (room_each * at) lent text out
  pub rest : text ++ text_from file (running st events) at ≡ text_from file (running fresh 0) from
  pub shaped : Shaped st
  pub is_sound : sound st ≡ true

-- on a sound state a step is what is attempted
pub attempted_stepped : (st : State) (e : Event) → sound st ≡ true → attempted st e ≡ stepped st e
unfolding attempted
attempted_stepped st e s = sym (stepped_sound st e s)

module _ {file : List ℕ} {lent : Writer} {from : ℕ} {fresh : State} where
  pub so_far_start : from ≤ length file → Shaped fresh × (sound fresh ≡ true) → SoFar file lent from fresh lent from fresh 0
  so_far_start l s =
      record {
        text = [];
        inside = l;
        numbered = omega arith;
        writes = writes_most (omega arith) (writes_none lent);
        rest = refl;
        shaped = s.0;
        is_sound = s.1;
      }

  module _ {out : Writer} {at : ℕ} {st : State} {events : ℕ} (h : SoFar file lent from fresh out at st events) where
    pub so_far_turn
        : {to : Writer} (e : Event) (q : Place) (o : Outcome)
        → read_at file at ≡ got (Happening e) q → o ≡ attempted st e → Writes event_line_most out (event_line (events + 1) o.answer) to
        → SoFar file lent from fresh to q.at o.state (events + 1)
    so_far_turn e q o g a w =
        let m = read_moves file at (Happening e) q g in
        let s : o ≡ stepped st e = a ∙ attempted_stepped st e h.is_sound in
        let k = kept st e h.shaped h.is_sound in
        let line : List ℕ = event_line (events + 1) o.answer in
        record {
          text = h.text ++ line;
          inside = m.1;
          numbered = omega (arith, h.numbered);
          writes = writes_most (omega arith) (writes_then h.writes w);
          rest =
              append_assoc h.text line (text_from file (running o.state (events + 1)) q.at)
              ∙ ap (λ l. h.text ++ l)
              (ap (λ p. event_line (events + 1) p.answer ++ text_from file (running p.state (events + 1)) q.at) s
              ∙ sym (text_event file at (running st events) q e g refl))
              ∙ h.rest;
          shaped = rw s k.0;
          is_sound = rw s k.1;
        }

    -- there is room for a line
    pub so_far_room : (n : ℕ) → n ≤ room_more → HasRoom lent (room (length file)) → HasRoom out n
    unfolding room
    so_far_room n l r = omega (arith, h.inside, h.writes.wrote.within, h.writes.wrote.kept)

    -- the last text of all
    pub so_far_end
        : (last : List ℕ) → text_from file (running st events) at ≡ last
        → Listed (length file) lent (text_from file (running fresh 0) from) last out
    so_far_end last e =
        record { lines = h.text; writes = writes_most (omega (arith, h.inside)) h.writes; whole = rw (← e) h.rest }
