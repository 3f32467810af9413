-- What the answers say, as a word, a number, and the number that follows where one does: the words of rules 7.1 to 7.10 and 10.1. Assumes nothing.
use Rattle.std.specs.Prelude.{Bool, true, false, ℕ}
use Rattle.std.specs.Prelude as std
use Rattle.std.proofs.Math.Option.{Option, none, some}
use Rattle.model.specs.declared.Answer.{Answer}
use Rattle.model.specs.declared.Answer.TheVariants.{Ok, Executes, Spins, Granted, Waits, Passed, Freed, Refused, RefusedWaiting}
use Rattle.model.specs.Verdicts.{Verdict}

-- rule 14.1: the words that a listing prints
pub data Word : Type 0 where
  ok executes spins granted waits passed freed refused : Word

-- a word, its number, and what follows
abbrev pub Saying : Type 0
Saying = Word × ℕ × Option ℕ

abbrev pub said : Answer → Saying
said (Ok n) = (ok, n, none)
said (Executes t) = (executes, t.0, none)
said (Spins t) = (spins, t.0, none)
said (Granted r) = (granted, r, none)
said (Waits t) = (waits, t.0, none)
said (Passed t) = (passed, t.0, none)
said (Freed r) = (freed, r, none)
said (Refused n) = (refused, n, none)
said (RefusedWaiting r) = (refused, 62, some r)

-- an answer that refuses
abbrev pub is_refused : Answer → Bool
is_refused (Ok n) = false
is_refused (Executes t) = false
is_refused (Spins t) = false
is_refused (Granted r) = false
is_refused (Waits t) = false
is_refused (Passed t) = false
is_refused (Freed r) = false
is_refused (Refused n) = true
is_refused (RefusedWaiting r) = true

-- fresh has no word of its own where it makes a state: it is told as `ok` and 0
abbrev pub said_fresh : Verdict → Saying
said_fresh (std.Ok _) = (ok, 0, none)
said_fresh (std.Err n) = (refused, n, none)
