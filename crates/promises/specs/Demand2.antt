-- Demand 2, over runs from a fresh table: soundness always, at most one server for a task, one owner for a resource, no circle of waiting, rule H, the
-- layer chooses nobody, accounts. A statement about every list of events is one about the state after every event. Assumes nothing.
use Rattle.std.specs.Prelude.{◌≡◌, true, false, List, ℕ, suc, ◌+◌, ◌≤◌}
use Rattle.laws.specs.Tests.{bit}
use Rattle.laws.specs.Loops.{count_to}
use Rattle.laws.specs.Links.{Leads}
use Rattle.reordering.specs.Run.{Never}
use Rattle.model.specs.declared.State.{State}
use Rattle.model.specs.declared.Table.{Table}
use Rattle.model.specs.declared.Event.{Event}
use Rattle.model.specs.declared.Event.TheVariants.{Dispatch, Elapse}
use Rattle.model.specs.State.{TaskNumber, ServerNumber, ResourceNumber, places, server_at, task_at, here, next, running_at, running_for, executing}
use Rattle.model.specs.Sound.{sound}
use Rattle.model.specs.Shape.{Shaped}
use Rattle.model.specs.Fresh.{fresh_state}
use Rattle.model.specs.Events.{acting}
use Rattle.model.specs.Step.{stepped}
use Rattle.theory.specs.Runs.{Accepted, reached, answers, refused_by, Goes, executes_in, Holds, ticks, ticks_for, total}
use Rattle.theory.specs.Rules.{RuleH, Accounts}

-- rules 4.1 to 4.16: soundness is kept by every event, from any sound state,
abbrev pub Kept : Type 0
Kept = (st : State) (e : Event) → Shaped st → sound st ≡ true → Shaped (stepped st e).state × (sound (stepped st e).state ≡ true)

-- and so holds after every list from fresh;
abbrev pub SoundAlways : Type 0
SoundAlways = (tb : Table) → Accepted tb → (es : List Event) → sound (reached tb es) ≡ true

-- so no event of such a list is refused 1 (rule 10.2) for an unsound state
abbrev pub NeverUnsound : Type 0
NeverUnsound = (tb : Table) → Accepted tb → (es : List Event) → Never (refused_by 1) (answers tb es)

-- Rule 2.5: no two servers execute one task. This much follows from the way a state is kept, an executor for each task; the content is in the next one.
abbrev pub OneServer : Type 0
OneServer =
    (tb : Table) → Accepted tb → (es : List Event) (t : TaskNumber) (s u : ServerNumber) →
    executes_in (reached tb es) t s ≡ true → executes_in (reached tb es) t u ≡ true → s ≡ u

-- Rules 4.14, 4.15: counted by servers that are Running and serve it, one of them executes the task where there is any, and none where there is none. All others of
-- them spin.
abbrev pub ServersThatExecute : Type 0
ServersThatExecute =
    (tb : Table) → Accepted tb → (es : List Event) (t : TaskNumber) →
    here (reached tb es) t ≡ true →
    (count_to places (executes_in (reached tb es) t) ≡ bit (executing (reached tb es) t)) ×
    ((s : ServerNumber) → running_for (reached tb es) t s ≡ true → executing (reached tb es) t ≡ true)

-- rule 4.8: at most one task owns a resource, said by the stacks
abbrev pub OneOwner : Type 0
OneOwner =
    (tb : Table) → Accepted tb → (es : List Event) (t u : TaskNumber) (r : ResourceNumber) →
    here (reached tb es) t ≡ true → here (reached tb es) u ≡ true →
    Holds (reached tb es) t r → Holds (reached tb es) u r → t ≡ u

-- rule 4.12: waiting never goes in a circle, no task is reached again from itself in one link or more
abbrev pub NoCycle : Type 0
NoCycle = (tb : Table) → Accepted tb → (es : List Event) (t : TaskNumber) (j : ℕ) → Leads places (next (reached tb es)) (suc j) t t → ⊥

-- rules 6.1 to 6.3: rule H holds of every task after every accepted event, in its three steps, and leaves no choice
abbrev pub RuleHAlways : Type 0
RuleHAlways =
    (st : State) (e : Event) → Shaped st → sound st ≡ true → Goes st e → (t : TaskNumber) →
    here st t ≡ true → RuleH st (stepped st e).state (acting st e) t

-- rule 7.3: the layer chooses nobody, a server becomes Running by its own dispatch and by nothing else
abbrev pub DispatchOnly : Type 0
DispatchOnly =
    (st : State) (e : Event) (s : ServerNumber) →
    running_at st s ≡ false → running_at (stepped st e).state s ≡ true → e ≡ Dispatch (record { 0 = s })

-- rule 8.1: an accepted elapse adds its ticks by who does what when it begins, and no other event touches them
abbrev pub AccountsByElapse : Type 0
AccountsByElapse =
    ((st : State) (n i : ℕ) → here st i ≡ true → Goes st (Elapse n) → Accounts st (stepped st (Elapse n)).state n i) ×
    ((st : State) (e : Event) (i : ℕ) → ((n : ℕ) → e ≡ Elapse n → ⊥) → Accounts st (stepped st e).state 0 i)

-- rule 8.2, conservation: what servers executed and lent is what tasks executed, and both are the ticks of the run
abbrev pub Ticks : Type 0
Ticks =
    (tb : Table) → Accepted tb → (es : List Event) →
    let st : State = reached tb es in
    (total st (λ s. (server_at st s).own + (server_at st s).lent) ≡ total st (λ t. (task_at st t).executed)) ×
    (total st (λ t. (task_at st t).executed) ≡ ticks (fresh_state tb) es)

-- The incident, excluded (rules 2.5, 8.1): what a task's record grew by is the ticks for which servers executed it, one server at a time. As this is said of every
-- list of events, no tick of any elapse is counted for two servers.
abbrev pub EachTickOnce : Type 0
EachTickOnce =
    (tb : Table) → Accepted tb → (es : List Event) (t : TaskNumber) →
    here (reached tb es) t ≡ true →
    ((task_at (reached tb es) t).executed ≡ ticks_for t (fresh_state tb) es) × (count_to places (executes_in (reached tb es) t) ≤ 1)
