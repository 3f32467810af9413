-- What is answered for a table, a task and an allowance (rule 12.9), and what each answer says. Assumes nothing.
use Rattle.std.specs.Prelude.{ℕ, ltb, if◌then◌else◌, Result, Ok, Err}
use Rattle.std.proofs.Math.Option.{Option, none, some}
use Rattle.bound.specs.declared.Bound.{Bound}
use Rattle.bound.specs.declared.Sections.{Sections}
use Rattle.bound.specs.Table.{refusal}
use Rattle.bound.specs.Interference.{Weighed, bound}

-- the bound and its weighings, or a refusal's number
abbrev pub Bounded : Type 0
Bounded = Result Bound ℕ

abbrev pub bounded : ℕ → ℕ → Bounded
bounded value weighings = Ok (record { value = value; weighings = weighings })

-- 46 where the weighings are more than the allowance
abbrev pub within : ℕ → Weighed → Bounded
within allowance w = if ltb allowance w.weighings then Err 46 else bounded w.value w.weighings

abbrev pub unless_refused : Option ℕ → Bounded → Bounded
unless_refused none found = found
unless_refused (some n) found = Err n

-- refusals 40 to 45 first, then the calculation
unfoldable pub answer : Sections → ℕ → ℕ → Bounded
answer s t allowance = let found = within allowance (bound s t) in unless_refused (refusal s t allowance) found

pub record Said : Type 0 where
  pub refused : Option ℕ
  pub bound : ℕ
  pub weighings : ℕ

-- a refusal has neither a bound nor weighings
abbrev pub said : Bounded → Said
said (Ok found) = record { refused = none; bound = found.value; weighings = found.weighings }
said (Err n) = record { refused = some n; bound = 0; weighings = 0 }
