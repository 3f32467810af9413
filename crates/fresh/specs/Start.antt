-- What fresh says, from the number of its refusal if it has one (rules 5.4 and 5.5), as a word and a number. Assumes nothing.
use Rattle.std.proofs.Math.Option.{Option, none, some}
use Rattle.std.specs.Prelude.{ℕ}
use Rattle.model.specs.Said.{Saying, ok, refused}

abbrev pub fresh_says : Option ℕ → Saying
fresh_says none = (ok, 0, none)
fresh_says (some n) = (refused, n, none)
