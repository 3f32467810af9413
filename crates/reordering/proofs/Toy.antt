-- A small machine with the traits that matter here: tasks in groups, at most one of a group running, so many processors, time that answers a
-- count, and refusals 1 (more run than there are processors) and 8 (no processor for a dispatch). Refusal 2 is for no such task, 7 for a group
-- of which a task runs already, 9 for a task that does not run, 12 for a task that would pass the limit. Assumes nothing.
use Rattle.std.specs.Prelude.{if◌then◌else◌}
use mathlib.Core.Path.{◌≡◌}
use mathlib.Core.Bool.{Bool, true, false, not, ◌&&◌, ◌||◌}
use mathlib.Core.List.{List}
use mathlib.Core.Option.{Option, none, some}
use Prim.Native.Nat.{ℕ, ◌+◌, ◌≤◌}
use lib.Dec.{leb, ltb, eqb}
use lib.ListN.{length, get_or, set, replicate}
use Rattle.laws.specs.Tests.{◌implies◌, accepted, ◌when◌or◌, first_of, without}
use Rattle.laws.specs.Loops.{count_to, all_to, set_to}
use Rattle.reordering.specs.Order.{Kind, time, group}
use Rattle.reordering.specs.Run.{Each}

pub record Task : Type 0 where
  pub running : Bool
  pub used : ℕ

pub record State : Type 0 where
  pub clock : ℕ
  pub tasks : List Task

pub data Event : Type 0 where
  elapse : ℕ → Event
  dispatch : ℕ → Event
  release : ℕ → Event

-- `ran k`: time passed, and k tasks ran
pub data Answer : Type 0 where
  done : Answer
  ran : ℕ → Answer
  refusal : ℕ → Answer

-- how many tasks and processors there are, how long a task may run, and the group of each task
pub record Config : Type 0 where
  pub n : ℕ
  pub processors : ℕ
  pub limit : ℕ
  pub group_of : ℕ → ℕ

abbrev pub idle : Task
idle = record { running = false; used = 0 }

abbrev pub task : State → ℕ → Task
task s t = get_or s.tasks t idle

abbrev pub runs : State → ℕ → Bool
runs s t = (task s t).running

-- s with the task t made to run or stopped
abbrev pub put : State → ℕ → Bool → State
put s t b = record { clock = s.clock; tasks = set s.tasks t (record { running = b; used = (task s t).used }) }

-- a task after k ticks
abbrev pub aged : ℕ → Task → Task
aged k x = record { running = x.running; used = if x.running then x.used + k else x.used }

-- the refusals that only the tests of processors give
abbrev pub for_processors_lem : Answer → Bool
for_processors_lem done = false
for_processors_lem (ran k) = false
for_processors_lem (refusal r) = eqb r 1 || eqb r 8

-- no entry of the log is a refusal of this number
abbrev pub Unrefused : ℕ → List (Event × Answer) → Type 0
Unrefused r = Each (λ e a. a ≡ refusal r → ⊥)

module _ (c : Config) where
  open c use {n, processors, limit, group_of}

  abbrev pub kind : Event → Kind
  kind (elapse k) = time
  kind (dispatch t) = group (group_of t)
  kind (release t) = group (group_of t)

  -- how many run: counted, not stored
  unfoldable pub in_use : State → ℕ
  in_use s = count_to n (runs s)

  -- whether the task i is of the group g and runs
  abbrev pub runs_in : ℕ → State → ℕ → Bool
  runs_in g s i = eqb (group_of i) g && runs s i

  -- whether a task of the group g runs
  unfoldable pub busy : ℕ → State → Bool
  busy g s = ltb 0 (count_to n (runs_in g s))

  -- whether k more ticks do not take the task past the limit
  abbrev pub fits : ℕ → Task → Bool
  fits k x = x.running implies leb (x.used + k) limit

  -- nor any other task
  unfoldable pub within : ℕ → State → Bool
  within k s = all_to n (λ i. fits k (task s i))

  -- the tests but the first, in the order of their numbers
  unfoldable pub tests : State → Event → List (ℕ × Bool)
  tests s (elapse k) = 12 when not (within k s) or accepted
  tests s (dispatch t) = 2 when leb n t or 7 when busy (group_of t) s or 8 when leb processors (in_use s) or accepted
  tests s (release t) = 2 when leb n t or 9 when not (runs s t) or accepted

  abbrev pub answer : State → Event → Answer
  answer s (elapse k) = ran (in_use s)
  answer s (dispatch t) = done
  answer s (release t) = done

  abbrev pub changed : State → Event → State
  changed s (elapse k) = record { clock = s.clock + k; tasks = set_to n (λ i. aged k (task s i)) s.tasks }
  changed s (dispatch t) = put s t true
  changed s (release t) = put s t false

  -- what an event does, refused or not
  abbrev pub act : State → Event → Option ℕ → Answer × State
  act s e none = (answer s e, changed s e)
  act s e (some r) = (refusal r, s)

  -- the number of the refusal, if it is refused
  unfoldable pub verdict : State → Event → Option ℕ
  verdict s e = first_of (1 when ltb processors (in_use s) or tests s e)

  abbrev pub step : State → Event → Answer × State
  step s e = act s e (verdict s e)

  -- the same without the tests for 1 and 8
  unfoldable pub freed : State → Event → Option ℕ
  freed s e = first_of (without 8 (tests s e))

  abbrev pub free : State → Event → Answer × State
  free s e = act s e (freed s e)

  -- what `free` keeps: nothing of processors
  abbrev pub Good : State → Type 0
  Good s = length s.tasks ≡ n

  -- what only `step` keeps
  abbrev pub Seated : State → Type 0
  Seated s = in_use s ≤ processors

  -- s and u agree on the clock and on the tasks of the group g
  abbrev pub Agree : ℕ → State → State → Type 0
  Agree g s u = (s.clock ≡ u.clock) × ((i : ℕ) → group_of i ≡ g → task s i ≡ task u i)

  unfoldable pub fresh : State
  fresh = record { clock = 0; tasks = replicate n idle }
