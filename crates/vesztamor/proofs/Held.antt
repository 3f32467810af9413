-- What the lent bytes hold, by what reading them gives back. Assumes nothing.
use Rattle.std.specs.Prelude.{Ok}
use mathlib.Core.Path.{◌≡◌}
use mathlib.Core.List.{List}
use mathlib.Core.Option.{Option, none, some}
use Prim.Native.Nat.{ℕ}
use Rattle.model.specs.declared.State.{State}
use Rattle.image.specs.Decoded.{decoded, imaged_by}

held_by : (d : Option State) (st : State) → Ok st ≡ imaged_by d → d ≡ some st
held_by none st e = cc
held_by (some x) st e = cc

pub held : (bytes : List ℕ) (st : State) → Ok st ≡ imaged_by (decoded bytes) → decoded bytes ≡ some st
held bytes st e = held_by (decoded bytes) st e
