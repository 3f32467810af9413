-- What the exported functions that write leave of the lent memory. Assumes nothing.
use mathlib.Core.Path.{◌≡◌, sym, ap, ◌∙◌}
use mathlib.Core.Bool.{true, false}
use mathlib.Core.List.{List}
use mathlib.Core.Option.{some}
use Prim.Native.Nat.{ℕ}
use lib.ListN.{length, replicate, length-replicate}
use borrow.Author.Tests.{eq-eqb}
use Rattle.model.specs.declared.State.{State}
use Rattle.model.specs.declared.Outcome.{Outcome}
use Rattle.model.specs.Said.{Saying, is_refused}
use Rattle.model.specs.Step.{stepped}
use Rattle.trace.specs.Reading.{is_event, event_of}
use Rattle.image.specs.Layout.{image_size}
use Rattle.image.specs.Encoded.{encoded, written}
use Rattle.image.specs.Decoded.{decoded}
use Rattle.image.proofs.Image.{decoded_long}
use Rattle.vesztamor.specs.Packed.{packed}
use Rattle.vesztamor.specs.Exported.{Exported, zeros, step_export}

-- the two clauses of a contract, from what is exported
pub both
    : (x : Exported) (said : Saying) (left : List ℕ) (r : ℕ) (exit : List ℕ)
    → x ≡ record { answer = said; bytes = left } → r ≡ packed said → exit ≡ left → record { answer : r ≡ packed x.answer; bytes : exit ≡ x.bytes }
both x said left r exit e a b = record { answer = a ∙ ap (λ y. packed y.answer) (sym e); bytes = b ∙ ap (λ y. y.bytes) (sym e) }

-- memory as long as a state takes the state
pub written_whole : (st : State) (bytes : List ℕ) → length bytes ≡ image_size → written st bytes ≡ encoded st bytes
written_whole st bytes e = rw (eq-eqb (length bytes) image_size e)

-- a state written over zeros
pub written_over
    : (st : State) (bytes blank exit : List ℕ)
    → length bytes ≡ image_size → blank ≡ replicate (length bytes) 0 → exit ≡ written st blank → exit ≡ encoded st zeros
unfolding zeros
written_over st bytes blank exit long e h =
    h ∙ ap (written st) (e ∙ ap (λ n. replicate n 0) long) ∙ written_whole st (replicate image_size 0) (length-replicate {A = ℕ} image_size 0)

-- the state after an event in place of the bytes
pub step_written
    : (bytes : List ℕ) (kind number resource ticks : ℕ) → is_event kind ≡ true → (st : State) → decoded bytes ≡ some st
    → (o : Outcome) → o ≡ stepped st (event_of kind number resource ticks) → is_refused o.answer ≡ false
    → (exit : List ℕ) → exit ≡ written o.state bytes → exit ≡ (step_export bytes kind number resource ticks).bytes
unfolding step_export
step_written bytes kind number resource ticks known st e o does n exit h =
    rw (known, e, ← does, n) (h ∙ written_whole o.state bytes (decoded_long bytes st e))
