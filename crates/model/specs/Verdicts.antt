-- What tests say: that none refuses, or the number of the first that does. Assumes nothing.
use Rattle.std.specs.Prelude.{Bool, ℕ, ⊤, Result, Ok, Err, if◌then◌else◌}
use Rattle.std.proofs.Math.Option.{Option, none, some}

abbrev pub Verdict : Type 0
Verdict = Result ⊤ ℕ

abbrev pub verdict : Option ℕ → Verdict
verdict none = Ok tt
verdict (some n) = Err n

-- by one test
abbrev pub refused_if : {E : Type 0} → E → Bool → Result ⊤ E
refused_if e b = if b then Err e else Ok tt
