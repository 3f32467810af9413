-- Bytes past the counts are neither read nor written by the exported functions (rule 1.7): calls on images that are alike in use get one answer and leave
-- them alike, and a byte past the counts stays. That an event keeps the counts is crate `theory`'s law, and a hypothesis here. Assumes nothing.
use Rattle.std.specs.Prelude.{if◌then◌else◌}
use mathlib.Core.Path.{◌≡◌, refl, ap, ◌∙◌}
use mathlib.Core.Bool.{Bool, true, false}
use mathlib.Core.List.{List}
use mathlib.Core.Option.{Option, none, some}
use Prim.Native.Nat.{ℕ}
use Rattle.laws.proofs.Cases.{split}
use Rattle.model.specs.declared.State.{State}
use Rattle.model.specs.declared.Event.{Event}
use Rattle.model.specs.Step.{stepped}
use Rattle.model.specs.Said.{is_refused}
use Rattle.trace.specs.Reading.{is_event, event_of}
use Rattle.image.specs.Decoded.{decoded}
use Rattle.image.specs.InUse.{AlikeInUse, SamePast}
use Rattle.image.proofs.Image.{decoded_long, decoded_counts}
use Rattle.image.proofs.Alike.{alike_decoded, encoded_past, encoded_alike}
use Rattle.vesztamor.specs.Exported.{Exported, sound_export, executing_said, executing_export, step_left, step_by, step_export}

module _ (a b : List ℕ) (alike : AlikeInUse a b) where
  pub sound_alike : sound_export a ≡ sound_export b
  unfolding sound_export
  sound_alike = rw (alike_decoded a b alike)

  pub executing_alike : (s : ℕ) → executing_export a s ≡ executing_export b s
  unfolding executing_export
  executing_alike s = ap (λ d. executing_said d s) (alike_decoded a b alike)

-- what a call answers and leaves, of two images
abbrev Both : Exported → Exported → Type 0
Both x y = (x.answer ≡ y.answer) × AlikeInUse x.bytes y.bytes

either_both : (c : Bool) (x y u v : Exported) → Both x y → Both u v → Both (if c then x else u) (if c then y else v)
either_both true x y u v f g = f
either_both false x y u v f g = g

-- an event keeps the counts
abbrev pub CountsKept : Type 0
CountsKept = (st : State) (e : Event) → ((stepped st e).state.tasks ≡ st.tasks) × ((stepped st e).state.resources ≡ st.resources)

module _ (kept : CountsKept) (e : Event) where
  done_both
      : (a b : List ℕ) (st : State) → decoded a ≡ some st → AlikeInUse a b → Both (step_left (stepped st e) a) (step_left (stepped st e) b)
  done_both a b st d alike =
      let counts = decoded_counts a st d in
      let k = kept st e in (
        refl,
        split (is_refused (stepped st e).answer)
            (λ y. rw y alike)
            (λ n. rw n (encoded_alike (stepped st e).state a b (k.0 ∙ counts.0) (k.1 ∙ counts.1) (decoded_long a st d) alike)),
      )

  done_past : (bytes : List ℕ) (st : State) → decoded bytes ≡ some st → SamePast bytes (step_left (stepped st e) bytes).bytes
  done_past bytes st d =
      let counts = decoded_counts bytes st d in
      let k = kept st e in
      split (is_refused (stepped st e).answer)
      (λ y. rw y (λ i past. refl))
      (λ n. rw n (encoded_past (stepped st e).state bytes (k.0 ∙ counts.0) (k.1 ∙ counts.1)))

  held_both : (d : Option State) (a b : List ℕ) → decoded a ≡ d → AlikeInUse a b → Both (step_by d e a) (step_by d e b)
  held_both none a b h alike = (refl, alike)
  held_both (some st) a b h alike = done_both a b st h alike

  held_past : (d : Option State) (bytes : List ℕ) → decoded bytes ≡ d → SamePast bytes (step_by d e bytes).bytes
  held_past none bytes h = λ i past. refl
  held_past (some st) bytes h = done_past bytes st h

module _ (kept : CountsKept) (kind number resource ticks : ℕ) where
  pub step_alike
      : (a b : List ℕ) → AlikeInUse a b
      → ((step_export a kind number resource ticks).answer ≡ (step_export b kind number resource ticks).answer)
      × AlikeInUse (step_export a kind number resource ticks).bytes (step_export b kind number resource ticks).bytes
  unfolding step_export
  step_alike a b alike =
      rw (← (alike_decoded a b alike))
      (either_both (is_event kind) _ _ _ _ (held_both kept (event_of kind number resource ticks) (decoded a) a b refl alike) (refl, alike))

  pub step_past : (bytes : List ℕ) → SamePast bytes (step_export bytes kind number resource ticks).bytes
  unfolding step_export
  step_past bytes =
      split (is_event kind)
      (λ y. rw y (held_past kept (event_of kind number resource ticks) (decoded bytes) bytes refl))
      (λ n. rw n (λ i past. refl))
