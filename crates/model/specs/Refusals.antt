-- The refusals' numbers: those of docs/REFUSALS.md, of rules 5.4, 9.2, 10.2, 12.9 and 13.5 to 13.7. The rules and the definitions speak of numbers, the code of
-- refusals by name. Assumes nothing.
use Rattle.std.specs.Prelude.{ℕ, Result, Ok, Err}
use Rattle.model.specs.declared.refusals.Refusal.{Refusal}
use Rattle.model.specs.declared.refusals.Refusal.TheVariants.{Unsound, NoSuchTask, NoSuchResource, Undeclared, NotSuspended, NotActive, NoProcessor, NotRunning, TicksOutOfRange, ClockLimit, PastBudget, NotRecharging, BeforeDeadline, AlreadyHeld, WouldDeadlock, NotOwned, NotTop, BadCounts, BadReservation, BadDeclaration, FewRows, CutShort, BadRecord, OutOfOrder, TooLong, BadSectionCounts, BadSection, ResourceOrder, ChildrenTooLong, NoSuchBoundTask, BadAllowance, AllowanceSpent, Suspended, Waiting, NotServed}

abbrev pub refusal_no : Refusal → ℕ
refusal_no Unsound = 1
refusal_no NoSuchTask = 2
refusal_no NoSuchResource = 3
refusal_no Undeclared = 4
refusal_no NotSuspended = 5
refusal_no NotActive = 7
refusal_no NoProcessor = 8
refusal_no NotRunning = 9
refusal_no TicksOutOfRange = 10
refusal_no ClockLimit = 11
refusal_no PastBudget = 12
refusal_no NotRecharging = 13
refusal_no BeforeDeadline = 14
refusal_no AlreadyHeld = 15
refusal_no WouldDeadlock = 16
refusal_no NotOwned = 17
refusal_no NotTop = 18
refusal_no BadCounts = 19
refusal_no BadReservation = 20
refusal_no BadDeclaration = 21
refusal_no FewRows = 22
refusal_no CutShort = 30
refusal_no BadRecord = 31
refusal_no OutOfOrder = 32
refusal_no TooLong = 33
refusal_no BadSectionCounts = 40
refusal_no BadSection = 41
refusal_no ResourceOrder = 42
refusal_no ChildrenTooLong = 43
refusal_no NoSuchBoundTask = 44
refusal_no BadAllowance = 45
refusal_no AllowanceSpent = 46
refusal_no Suspended = 61
refusal_no Waiting = 62
refusal_no NotServed = 63

-- what is returned, a refusal by its number
abbrev pub numbered : {A : Type 0} → Result A Refusal → Result A ℕ
numbered (Ok x) = Ok x
numbered (Err refusal) = Err (refusal_no refusal)
