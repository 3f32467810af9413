-- What a server is doing (rule 3.4). A number that is not in use is not running. Assumes nothing.
use Rattle.std.proofs.Math.Option.{Option, none, some}
use Rattle.std.specs.Prelude.{ℕ, if◌then◌else◌}
use Rattle.model.specs.declared.State.{State}
use Rattle.model.specs.State.{served, running_at, executes}
use Rattle.model.specs.Said as word
use Rattle.model.specs.Said.{Saying}
use Rattle.settle.specs.declared.Doing.{Doing}
use Rattle.settle.specs.declared.Doing.TheVariants.{Executes, Spins, NotRunning}

unfoldable pub doing : State → ℕ → Doing
doing st s =
    if running_at st s then (if executes st s then Executes (record { 0 = served st s }) else Spins (record { 0 = served st s })) else NotRunning

-- the word of rule 7 and the task's number; the rules have none for a server that is not Running
abbrev pub said_doing : Doing → Option Saying
said_doing (Executes t) = some (word.executes, t.0, none)
said_doing (Spins t) = some (word.spins, t.0, none)
said_doing NotRunning = none
