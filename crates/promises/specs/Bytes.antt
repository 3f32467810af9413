-- Demand 1 over bytes: through the static library too, what lies past the counts is neither read nor changed (rule 1.7). `AlikeInUse` says of two images
-- that they have as many bytes and the same ones in the header and in the entries in use, `SamePast` that the others are the same. Of any length: where
-- it is not a state's, the call is refused. Assumes nothing.
use Rattle.std.specs.Prelude.{◌≡◌, List, ℕ}
use Rattle.image.specs.InUse.{AlikeInUse, SamePast}
use Rattle.vesztamor.specs.Exported.{sound_export, executing_export, step_export}

-- images that are alike in use get one answer from every call of step, and are alike in use afterwards,
abbrev pub PastUnread : Type 0
PastUnread =
    (kind number resource ticks : ℕ) (a b : List ℕ) →
    AlikeInUse a b →
    ((step_export a kind number resource ticks).answer ≡ (step_export b kind number resource ticks).answer) ×
    AlikeInUse (step_export a kind number resource ticks).bytes (step_export b kind number resource ticks).bytes

-- and one answer from the calls that only read,
abbrev pub PastUnasked : Type 0
PastUnasked = (a b : List ℕ) → AlikeInUse a b → (sound_export a ≡ sound_export b) × ((s : ℕ) → executing_export a s ≡ executing_export b s)

-- and every byte past the counts stays as it came
abbrev pub PastKept : Type 0
PastKept = (kind number resource ticks : ℕ) (bytes : List ℕ) → SamePast bytes (step_export bytes kind number resource ticks).bytes
