-- An answer as one number of 64 bits: its word's number in bits 56 to 63, what follows in bits 32 to 55, its number in bits 0 to 31. `unpacked` is how
-- a caller reads it. Assumes nothing.
use Rattle.std.proofs.Math.Option.{Option, none, some}
use Rattle.std.specs.Prelude.{ℕ, ◌+◌, ◌*◌, ◌-◌, ◌/◌, ◌%◌, ◌^◌, ◌<◌, eqb, if◌then◌else◌}
use Rattle.model.specs.Said.{Word, ok, executes, spins, granted, waits, passed, freed, refused, Saying}

abbrev pub word_number : Word → ℕ
word_number ok = 0
word_number executes = 1
word_number spins = 2
word_number granted = 3
word_number waits = 4
word_number passed = 5
word_number freed = 6
word_number refused = 7

-- 0 where nothing follows, else one more than the number that does: so `ok` and 0 is packed as 0, and a 0 that follows is told from nothing
abbrev pub further_field : Option ℕ → ℕ
further_field none = 0
further_field (some n) = n + 1

abbrev pub packed : Saying → ℕ
packed answer = word_number answer.0 * 2 ^ 56 + further_field answer.2 * 2 ^ 32 + answer.1

-- an answer whose parts have room in their bits
abbrev pub FitsBits : Saying → Type 0
FitsBits answer = (answer.1 < 2 ^ 32) × (further_field answer.2 < 2 ^ 24)

-- each part again, from what stands in its bits; no word has a number above 7
abbrev pub word_of : ℕ → Word
word_of n =
    if eqb n 0 then ok
    else if eqb n 1 then executes
    else if eqb n 2 then spins
    else if eqb n 3 then granted
    else if eqb n 4 then waits
    else if eqb n 5 then passed
    else if eqb n 6 then freed
    else refused

abbrev pub further_of : ℕ → Option ℕ
further_of n = if eqb n 0 then none else some (n - 1)

abbrev pub unpacked : ℕ → Saying
unpacked n = (word_of (n / 2 ^ 56), n % 2 ^ 32, further_of (n / 2 ^ 32 % 2 ^ 24))
