-- Verdicts put together from tests and taken apart; a number is one refusal's, so that what is returned is known from what is told. Assumes nothing.
use mathlib.Core.Path.{◌≡◌, refl, sym, ap, ◌∙◌}
use mathlib.Core.Bool.{Bool, true, false}
use mathlib.Core.Option.{Option, none, some}
use Prim.Native.Nat.{ℕ}
use native.Mathlib.Omega.{arith}
use Rattle.laws.specs.Tests.{accepted, ◌when◌or◌, first_of}
use Rattle.std.specs.Prelude.{Ok, Err, Result, ⊤, eqb, if◌then◌else◌}
use Rattle.model.specs.declared.refusals.Refusal.{Refusal}
use Rattle.model.specs.declared.refusals.Refusal.TheVariants.{Unsound, NoSuchTask, NoSuchResource, Undeclared, NotSuspended, NotActive, NoProcessor, NotRunning, TicksOutOfRange, ClockLimit, PastBudget, NotRecharging, BeforeDeadline, AlreadyHeld, WouldDeadlock, NotOwned, NotTop, BadCounts, BadReservation, BadDeclaration, FewRows, CutShort, BadRecord, OutOfOrder, TooLong, BadSectionCounts, BadSection, ResourceOrder, ChildrenTooLong, NoSuchBoundTask, BadAllowance, AllowanceSpent, Suspended, Waiting, NotServed}
use Rattle.model.specs.Refusals.{refusal_no, numbered}
use Rattle.model.specs.Verdicts.{verdict, refused_if}

-- a test alone
pub verdict_if : (n : ℕ) (b : Bool) → refused_if n b ≡ verdict (first_of (n when b or accepted))
unfolding first_of
verdict_if n true = refl
verdict_if n false = refl

-- what a test returned, by its number
pub told_if : (refusal : Refusal) (b : Bool) (told : Result ⊤ Refusal) → told ≡ refused_if refusal b → numbered told ≡ refused_if (refusal_no refusal) b
told_if refusal true told e = ap numbered e
told_if refusal false told e = ap numbered e

-- a verdict taken apart
pub verdict_none : (o : Option ℕ) → verdict o ≡ Ok tt → o ≡ none
verdict_none none e = refl
verdict_none (some n) e = absurd (let z : ◌≡◌ {A = ℕ} 0 1 = cc in omega arith)

pub verdict_some : (o : Option ℕ) (n : ℕ) → verdict o ≡ Err n → o ≡ some n
verdict_some none n e = absurd (let z : ◌≡◌ {A = ℕ} 0 1 = cc in omega arith)
verdict_some (some m) n e = ap some (cc)

-- what a test returned, taken apart
pub passed_none : (o : Option ℕ) (r : Result ⊤ Refusal) (x : ⊤) → numbered r ≡ verdict o → r ≡ Ok x → o ≡ none
passed_none o r x e h = verdict_none o (sym e ∙ ap numbered h)

pub refused_some : (o : Option ℕ) (r : Result ⊤ Refusal) (refusal : Refusal) → numbered r ≡ verdict o → r ≡ Err refusal → o ≡ some (refusal_no refusal)
refused_some o r refusal e h = verdict_some o (refusal_no refusal) (sym e ∙ ap numbered h)

-- the refusal of a number
refusal_of : ℕ → Refusal
refusal_of n =
    if eqb n 1 then Unsound else
    if eqb n 2 then NoSuchTask else
    if eqb n 3 then NoSuchResource else
    if eqb n 4 then Undeclared else
    if eqb n 5 then NotSuspended else
    if eqb n 7 then NotActive else
    if eqb n 8 then NoProcessor else
    if eqb n 9 then NotRunning else
    if eqb n 10 then TicksOutOfRange else
    if eqb n 11 then ClockLimit else
    if eqb n 12 then PastBudget else
    if eqb n 13 then NotRecharging else
    if eqb n 14 then BeforeDeadline else
    if eqb n 15 then AlreadyHeld else
    if eqb n 16 then WouldDeadlock else
    if eqb n 17 then NotOwned else
    if eqb n 18 then NotTop else
    if eqb n 19 then BadCounts else
    if eqb n 20 then BadReservation else
    if eqb n 21 then BadDeclaration else
    if eqb n 22 then FewRows else
    if eqb n 30 then CutShort else
    if eqb n 31 then BadRecord else
    if eqb n 32 then OutOfOrder else
    if eqb n 33 then TooLong else
    if eqb n 40 then BadSectionCounts else
    if eqb n 41 then BadSection else
    if eqb n 42 then ResourceOrder else
    if eqb n 43 then ChildrenTooLong else
    if eqb n 44 then NoSuchBoundTask else
    if eqb n 45 then BadAllowance else
    if eqb n 46 then AllowanceSpent else
    if eqb n 61 then Suspended else
    if eqb n 62 then Waiting else
    NotServed

told_back : (r : Refusal) → refusal_of (refusal_no r) ≡ r
unfolding refusal_of
told_back Unsound = refl
told_back NoSuchTask = refl
told_back NoSuchResource = refl
told_back Undeclared = refl
told_back NotSuspended = refl
told_back NotActive = refl
told_back NoProcessor = refl
told_back NotRunning = refl
told_back TicksOutOfRange = refl
told_back ClockLimit = refl
told_back PastBudget = refl
told_back NotRecharging = refl
told_back BeforeDeadline = refl
told_back AlreadyHeld = refl
told_back WouldDeadlock = refl
told_back NotOwned = refl
told_back NotTop = refl
told_back BadCounts = refl
told_back BadReservation = refl
told_back BadDeclaration = refl
told_back FewRows = refl
told_back CutShort = refl
told_back BadRecord = refl
told_back OutOfOrder = refl
told_back TooLong = refl
told_back BadSectionCounts = refl
told_back BadSection = refl
told_back ResourceOrder = refl
told_back ChildrenTooLong = refl
told_back NoSuchBoundTask = refl
told_back BadAllowance = refl
told_back AllowanceSpent = refl
told_back Suspended = refl
told_back Waiting = refl
told_back NotServed = refl

pub one_refusal : (r s : Refusal) → refusal_no r ≡ refusal_no s → r ≡ s
one_refusal r s e = sym (told_back r) ∙ ap refusal_of e ∙ told_back s

-- what is told leaves one result
module _ {A : Type 0} where
  unnumbered : Result A ℕ → Result A Refusal
  unnumbered (Ok x) = Ok x
  unnumbered (Err n) = Err (refusal_of n)

  told_whole : (a : Result A Refusal) → unnumbered (numbered a) ≡ a
  unfolding unnumbered
  told_whole (Ok x) = refl
  told_whole (Err r) = ap Err (told_back r)

  pub numbered_one : (a b : Result A Refusal) → numbered a ≡ numbered b → a ≡ b
  numbered_one a b e = sym (told_whole a) ∙ ap unnumbered e ∙ told_whole b
