-- A refusal writes nothing: where an exported function answers `refused`, the bytes lent to it stay as they were. Assumes nothing.
use Rattle.std.specs.Prelude.{if◌then◌else◌, Ok, Err}
use mathlib.Core.Path.{◌≡◌, refl}
use mathlib.Core.Bool.{Bool, true, false}
use mathlib.Core.List.{List}
use mathlib.Core.Option.{Option, none, some}
use Prim.Native.Nat.{ℕ}
use lib.Dec.{leb, eqb}
use lib.ListN.{length}
use Rattle.laws.proofs.Cases.{split}
use Rattle.model.specs.declared.Answer.{Answer}
use Rattle.model.specs.declared.Answer.TheVariants.{Ok, Executes, Spins, Granted, Waits, Passed, Freed, Refused, RefusedWaiting}
use Rattle.model.specs.declared.Event.{Event}
use Rattle.model.specs.declared.Outcome.{Outcome}
use Rattle.model.specs.declared.State.{State}
use Rattle.model.specs.Said.{ok, refused, said, is_refused}
use Rattle.model.specs.Fresh.{fresh_of}
use Rattle.model.specs.Step.{stepped}
use Rattle.model.specs.Verdicts.{Verdict}
use Rattle.bound.specs.Answer.{Bounded, answer}
use Rattle.listing.specs.Replay.{room, replayed, buffer_after}
use Rattle.image.specs.Layout.{image_size}
use Rattle.image.specs.Decoded.{decoded}
use Rattle.vesztamor.specs.Tables.{is_table, table_in, is_sections, sections_in}
use Rattle.trace.specs.Reading.{is_event, event_of}
use Rattle.vesztamor.specs.Exported.{Exported, fresh_left, fresh_export, step_left, step_by, step_export, bound_size, bound_left, bound_export, replay_export}

abbrev pub Keeps : List ℕ → Exported → Type 0
Keeps bytes x = x.answer.0 ≡ refused → x.bytes ≡ bytes

either_keeps : (b : Bool) (bytes : List ℕ) (x y : Exported) → Keeps bytes x → Keeps bytes y → Keeps bytes (if b then x else y)
either_keeps true bytes x y f g = f
either_keeps false bytes x y f g = g

made_keeps : (a : Verdict) (st : State) (bytes : List ℕ) → Keeps bytes (fresh_left a st bytes)
made_keeps (Ok made) st bytes e = cc
made_keeps (Err n) st bytes e = refl

found_keeps : (a : Bounded) (bytes : List ℕ) → Keeps bytes (bound_left a bytes)
found_keeps (Ok found) bytes e = cc
found_keeps (Err n) bytes e = refl

told_refused : (a : Answer) → (said a).0 ≡ refused → is_refused a ≡ true
told_refused (Ok n) e = cc
told_refused (Executes t) e = cc
told_refused (Spins t) e = cc
told_refused (Granted r) e = cc
told_refused (Waits t) e = cc
told_refused (Passed t) e = cc
told_refused (Freed r) e = cc
told_refused (Refused n) e = refl
told_refused (RefusedWaiting r) e = refl

done_keeps : (o : Outcome) (bytes : List ℕ) → Keeps bytes (step_left o bytes)
done_keeps o bytes e = rw (told_refused o.answer e)

held_keeps : (d : Option State) (e : Event) (bytes : List ℕ) → Keeps bytes (step_by d e bytes)
held_keeps none e bytes = λ r. refl
held_keeps (some st) e bytes = done_keeps (stepped st e) bytes

pub fresh_keeps : (table bytes : List ℕ) → Keeps bytes (fresh_export table bytes)
unfolding fresh_export
fresh_keeps table bytes =
    either_keeps (eqb (length bytes) image_size) bytes _ _
    (either_keeps (is_table table) bytes _ _ (made_keeps (fresh_of (table_in table)).answer (fresh_of (table_in table)).state bytes) (λ e. refl))
    (λ e. refl)

pub step_keeps : (bytes : List ℕ) (kind number resource ticks : ℕ) → Keeps bytes (step_export bytes kind number resource ticks)
unfolding step_export
step_keeps bytes kind number resource ticks =
    either_keeps (is_event kind) bytes _ _ (held_keeps (decoded bytes) (event_of kind number resource ticks) bytes) (λ e. refl)

pub bound_keeps : (sections : List ℕ) (task allowance : ℕ) (bytes : List ℕ) → Keeps bytes (bound_export sections task allowance bytes)
unfolding bound_export
bound_keeps sections task allowance bytes =
    either_keeps (eqb (length bytes) bound_size) bytes _ _
    (either_keeps (is_sections sections) bytes _ _ (found_keeps (answer (sections_in sections) task allowance) bytes) (λ e. refl))
    (λ e. refl)

pub replay_keeps : (trace bytes : List ℕ) → Keeps bytes (replay_export trace bytes)
unfolding replay_export replayed buffer_after
replay_keeps trace bytes e =
    split (leb (room (length trace)) (length bytes))
    (λ y.
    let q : ok ≡ refused = rw y at e in cc)
    (λ n. rw n)
