-- An answer's number tells its word, what follows and its number, each by division and remainder, and so the whole answer (`unpacked_packed`): no two
-- answers that fit their bits are packed alike (`packed_apart`). All of the layer's do: a number that an answer carries has 16 bits by its type, and the
-- length of a listing is small too (`said_fits`, `replayed_fits`). Assumes nothing.
use mathlib.Core.Path.{◌≡◌, refl, sym, ap, ◌∙◌}
use mathlib.Core.List.{List}
use mathlib.Core.Option.{Option, none, some}
use Prim.Native.Nat.{ℕ, ◌+◌, ◌/◌, ◌%◌, ◌^◌, ◌<◌}
use native.Mathlib.Omega.{arith}
use lib.Dec.{ltb, leb}
use lib.ListN.{length}
use borrow.Author.Tests.{ltb-false, ne_eqb}
use Rattle.laws.proofs.Cases.{split}
use Rattle.model.specs.declared.Answer.{Answer}
use Rattle.model.specs.declared.Answer.TheVariants.{Ok, Executes, Spins, Granted, Waits, Passed, Freed, Refused, RefusedWaiting}
use Rattle.model.specs.Said.{Word, ok, executes, spins, granted, waits, passed, freed, refused, Saying, said}
use Rattle.trace.specs.Order.{file_limit}
use Rattle.listing.specs.Replay.{room, replayed, said_replayed}
use Rattle.lent_bytes.specs.Numbers.{Fits16}
use Rattle.lent_bytes.specs.Text.{bytes, digits, decimal}
use Rattle.listing.specs.Text.{field, newline}
use Rattle.listing.specs.Listing.{stop_line, listing}
use Rattle.listing.proofs.Lengths.{listing_fits}
use Rattle.vesztamor.specs.Packed.{word_number, further_field, packed, FitsBits, word_of, further_of, unpacked}

module _ (answer : Saying) (fits : FitsBits answer) where
  pub word_told : packed answer / 2 ^ 56 ≡ word_number answer.0
  word_told = omega arith

  pub further_told : packed answer / 2 ^ 32 % 2 ^ 24 ≡ further_field answer.2
  further_told = omega arith

  pub number_told : packed answer % 2 ^ 32 ≡ answer.1
  number_told = omega arith

word_back : (w : Word) → word_of (word_number w) ≡ w
word_back ok = refl
word_back executes = refl
word_back spins = refl
word_back granted = refl
word_back waits = refl
word_back passed = refl
word_back freed = refl
word_back refused = refl

further_back : (further : Option ℕ) → further_of (further_field further) ≡ further
further_back none = refl
further_back (some n) = rw (ne_eqb (n + 1) 0 (λ e. omega arith)) (ap some (omega arith))

pub unpacked_packed : (answer : Saying) → FitsBits answer → unpacked (packed answer) ≡ answer
unpacked_packed answer fits =
    λ i. (
      (ap word_of (word_told answer fits) ∙ word_back answer.0) i,
      number_told answer fits i,
      (ap further_of (further_told answer fits) ∙ further_back answer.2) i,
    )

pub packed_apart : (a b : Saying) → FitsBits a → FitsBits b → packed a ≡ packed b → a ≡ b
packed_apart a b f g alike = sym (unpacked_packed a f) ∙ ap unpacked alike ∙ unpacked_packed b g

-- the number that an answer of the code carries, 16 bits wide
abbrev pub carried : Answer → ℕ
carried (Ok n) = n
carried (Executes t) = t.0
carried (Spins t) = t.0
carried (Granted r) = r
carried (Waits t) = t.0
carried (Passed t) = t.0
carried (Freed r) = r
carried (Refused n) = n
carried (RefusedWaiting r) = r

pub said_fits : (a : Answer) → Fits16 (carried a) → FitsBits (said a)
said_fits (Ok n) small = (omega arith, omega arith)
said_fits (Executes t) small = (omega arith, omega arith)
said_fits (Spins t) small = (omega arith, omega arith)
said_fits (Granted r) small = (omega arith, omega arith)
said_fits (Waits t) small = (omega arith, omega arith)
said_fits (Passed t) small = (omega arith, omega arith)
said_fits (Freed r) small = (omega arith, omega arith)
said_fits (Refused n) small = (omega arith, omega arith)
said_fits (RefusedWaiting r) small = (omega arith, omega arith)

pub listing_small : (file : List ℕ) → length (listing file) < 2 ^ 32
unfolding listing room stop_line bytes field newline decimal digits
listing_small file =
    split (ltb file_limit (length file)) (λ y. rw y (omega arith)) (λ n. omega (arith, listing_fits file, ltb-false file_limit (length file) n))

pub replayed_fits : (file : List ℕ) (lent : ℕ) → FitsBits (said_replayed (replayed file lent))
unfolding replayed
replayed_fits file lent =
    split
    (leb (room (length file)) lent)
    (λ y. rw y (listing_small file, omega arith))
    (λ n. rw n (omega arith, omega arith))
