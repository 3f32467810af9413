-- From a test on a phase, a mode or an owner to the variant that passes it. Assumes nothing.
use Rattle.std.specs.Prelude.{None, Some}
use mathlib.Core.Path.{◌≡◌, refl}
use mathlib.Core.Bool.{true, false}
use Prim.Native.Nat.{◌<◌}
use native.Mathlib.Omega.{arith}
use Rattle.laws.proofs.Cases.{holds_fails}
use Rattle.model.specs.declared.Phase.{Phase}
use Rattle.model.specs.declared.Phase.TheVariants.{Idle, Active, Running, Recharging}
use Rattle.model.specs.declared.Mode.{Mode}
use Rattle.model.specs.declared.Mode.TheVariants.{Suspended, Ready, Waiting}
use Rattle.model.specs.State.{Owner, places, nobody, idle, active, running, recharging, suspended, waiting, owned, owner_no}

pub running_is : (p : Phase) → running p ≡ true → p ≡ Running
running_is Idle e = holds_fails e refl
running_is Active e = holds_fails e refl
running_is Running e = refl
running_is Recharging e = holds_fails e refl

pub active_is : (p : Phase) → active p ≡ true → p ≡ Active
active_is Idle e = holds_fails e refl
active_is Active e = refl
active_is Running e = holds_fails e refl
active_is Recharging e = holds_fails e refl

pub idle_is : (p : Phase) → idle p ≡ true → p ≡ Idle
idle_is Idle e = refl
idle_is Active e = holds_fails e refl
idle_is Running e = holds_fails e refl
idle_is Recharging e = holds_fails e refl

pub recharging_is : (p : Phase) → recharging p ≡ true → p ≡ Recharging
recharging_is Idle e = holds_fails e refl
recharging_is Active e = holds_fails e refl
recharging_is Running e = holds_fails e refl
recharging_is Recharging e = refl

pub suspended_is : (m : Mode) → suspended m ≡ true → m ≡ Suspended
suspended_is Suspended e = refl
suspended_is Ready e = holds_fails e refl
suspended_is (Waiting r) e = holds_fails e refl

pub ready_is : (m : Mode) → suspended m ≡ false → waiting m ≡ false → m ≡ Ready
ready_is Suspended e w = holds_fails refl e
ready_is Ready e w = refl
ready_is (Waiting r) e w = holds_fails refl w

pub unowned_no : (o : Owner) → owned o ≡ false → owner_no o ≡ nobody
unowned_no None e = refl
unowned_no (Some t) e = holds_fails refl e

pub number_owned : (o : Owner) → owner_no o < places → owned o ≡ true
number_owned None l = absurd (omega arith)
number_owned (Some t) l = refl
