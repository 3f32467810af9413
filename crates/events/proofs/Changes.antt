-- The change of each event from its parts, as the code makes them; and that the events on servers and tasks change no chain. Assumes nothing.
use Rattle.std.specs.Prelude.{None, Some, if◌then◌else◌}
use mathlib.Core.Path.{◌≡◌, refl, sym, ap, ap₂, ◌∙◌}
use mathlib.Core.Bool.{Bool, true, false, ◌&&◌}
use mathlib.Core.List.{List, ◌++◌}
use Prim.Native.Nat.{ℕ, ◌+◌, ◌-◌, ◌<◌, ◌≤◌}
use native.Mathlib.Omega.{arith}
use lib.Dec.{ltb, eqb}
use lib.ListN.{length, get_or, set, drop, length-set, length-append, get_or-eq_default}
use Rattle.std.proofs.lemmas.List.{ext_get_or, get_or-drop, get_or_append_left, get_or-append_right, length-drop}
use lib.Seq.{get_or-set_same, get_or-set_other}
use borrow.Author.Tests.{eqb-true, eqb-false, eq-eqb, ne_eqb, ltb-true, ltb-false}
use Rattle.laws.specs.Tests.{bit}
use Rattle.laws.specs.Loops.{set_to}
use Rattle.laws.proofs.Cases.{split, holds_fails, and_left, and_right}
use Rattle.laws.proofs.Set.{length_set_to, set_at_lem, set_past, set_cases}
use Rattle.model.specs.declared.TaskNo.{TaskNo}
use Rattle.model.specs.declared.ServerNo.{ServerNo}
use Rattle.model.specs.declared.Phase.{Phase}
use Rattle.model.specs.declared.Phase.TheVariants.{Idle, Active}
use Rattle.model.specs.declared.Mode.{Mode}
use Rattle.model.specs.declared.Mode.TheVariants.{Suspended, Ready, Waiting}
use Rattle.model.specs.State.{Runs, places, nobody, no_task, server_at, task_at, resource_at, here, present, active, suspended, awaited, owned, owner_no, executor_number, owner_of, next, served, executor_of}
use Rattle.model.specs.declared.Server.{Server}
use Rattle.model.specs.declared.Task.{Task}
use Rattle.model.specs.declared.Resource.{Resource}
use Rattle.model.specs.declared.State.{State}
use Rattle.model.specs.declared.Event.TheVariants.{Wake, Suspend, Elapse, Recharge, Lock, Unlock}
use Rattle.model.specs.declared.Answer.{Answer}
use Rattle.model.specs.declared.Answer.TheVariants.{Ok, Granted, Waits, Passed, Freed}
use Rattle.model.specs.RuleH.{with_tasks}
use Rattle.model.specs.Events.{with_servers, with_clock, with_server, with_task, with_resource, with_phase, refilled, with_mode, each_server, task_by, woken, rested, slept, phased, ticked_task, elapsed, recharged_phase, recharged, with_owner, pushed, popped, enqueued, dequeued, next_in_queue, shifted, first_waiter, granted, joined, rested_end, locked, freed, passed, unlocked}
use Rattle.model.proofs.Chain.{here_below, owner_past, present_past, same_served}
use Rattle.model.proofs.Room.{executing_waits}
use Rattle.chain.specs.Arrays.{ends_of}
use Rattle.chain.proofs.Arrays.{ends_same, end_served}
use Rattle.events.specs.declared.turning.Turn.{Turn}
use Rattle.events.specs.declared.turning.Turn.TheVariants.{Wakes, Rests}
use Rattle.events.specs.declared.turning.Turned.{Turned}
use Rattle.events.specs.declared.Change.{Change}
use Rattle.events.specs.Changes.{Clear, change_to, change_of, phased_change}
use Rattle.events.specs.Computed.{turn_of, servers_by, turns, turned_server, turned_servers, mode_after, spent_servers, ticked_tasks}
use Rattle.events.proofs.Clear.{clear_grounds, clear_loose, number_owned}

-- the server of a change that is neither lock nor unlock
abbrev none : ServerNo
none = record { 0 = nobody }

-- what is the same of a new entry and of the one before is the same of the list
pub kept_under
    : {A : Type 0} {B : Type 0} (f : A → B) (xs : List A) (t i : ℕ) (v d : A)
    → f v ≡ f (get_or xs t d)
    → f (get_or (set xs t v) i d) ≡ f (get_or xs i d)
kept_under f xs t i v d e =
    split
    (eqb i t)
    (λ y.
    rw (eqb-true i t y)
    (split
    (ltb t (length xs))
    (λ l. ap f (get_or-set_same xs t v d (ltb-true _ _ l)) ∙ e)
    (λ g.
    let past : length xs ≤ t = ltb-false _ _ g in
    ap f (get_or-eq_default (set xs t v) d (rw (length-set xs t v) past) ∙ sym (get_or-eq_default xs d past)))))
    (λ n. ap f (get_or-set_other xs t i v d (eqb-false i t n)))

-- the owner that a task in this mode waits for
abbrev link_of : State → Task → ℕ
link_of st k = owner_of st (awaited k.mode)

no_owner : (st : State) → owner_of st nobody ≡ nobody
no_owner st = owner_past st nobody (present_past st nobody (omega arith))

-- a suspended task waits for nobody, nor does one that executes
suspended_link : (st : State) (m : Mode) → suspended m ≡ true → owner_of st (awaited m) ≡ nobody
suspended_link st Suspended h = no_owner st
suspended_link st Ready h = no_owner st
suspended_link st (Waiting r) h = holds_fails h refl

executing_link : (st : State) (t : TaskNo) → Clear st (Suspend t) → link_of st (task_at st t.0) ≡ nobody
unfolding owner_of
executing_link st t clear =
    let r = awaited (task_at st t.0).mode in
    let o = (resource_at st r).owner in
    split
    (present st r && here st (owner_no o))
    (λ y.
    absurd
    (executing_waits st (clear_loose st (Suspend t) clear) t.0 (clear_grounds st (Suspend t) clear).1 r
    (and_left (present st r) _ y)
    (number_owned o (here_below st _ (and_right (present st r) _ y)))
    refl))
    (λ n. rw n)

-- Wake and suspend: only the task's mode is part of a chain
moded_next
    : (st : State) (ss : List Server) (t : ℕ) (m : Mode)
    → owner_of st (awaited m) ≡ link_of st (task_at st t)
    → (i : ℕ)
    → next (with_task t (with_mode m (task_at st t)) (with_servers ss st)) i ≡ next st i
unfolding next owner_of present here
moded_next st ss t m e i =
    ap (λ (k : ℕ). if here st i then k else nobody) (kept_under (link_of st) st.task t i (with_mode m (task_at st t)) no_task e)

turned_link : (turn : Turn) (st : State) (t : TaskNo) → Clear st (turn_of turn t) → owner_of st (awaited (mode_after turn)) ≡ link_of st (task_at st t.0)
turned_link Wakes st t clear = no_owner st ∙ sym (suspended_link st (task_at st t.0).mode (clear_grounds st (Wake t) clear).1)
turned_link Rests st t clear = no_owner st ∙ sym (executing_link st t clear)

turned_ends
    : (turn : Turn) (st : State) (t : TaskNo) (ss : List Server)
    → Clear st (turn_of turn t)
    → ends_of (with_task t.0 (with_mode (mode_after turn) (task_at st t.0)) (with_servers ss st)) ≡ ends_of st
turned_ends turn st t ss clear = ends_same _ st (same_served _ st (moded_next st ss t.0 (mode_after turn) (turned_link turn st t clear)))

abbrev turned_to : Turn → State → TaskNo → Change
turned_to turn st t =
    change_to (with_task t.0 (with_mode (mode_after turn) (task_at st t.0)) (with_servers (turned_servers turn st t.0).server st))
    (Ok (turned_servers turn st t.0).count)
    nobody

turned_is : (turn : Turn) (st : State) (t : TaskNo) → turned_to turn st t ≡ change_of st (turn_of turn t)
unfolding change_of woken slept rested each_server servers_by turns turned_server
turned_is Wakes st t = refl
turned_is Rests st t = refl

pub turned_does
    : (turn : Turn) (st : State) (t : TaskNo) (ends : List TaskNo) (x : Turned) (m : Mode) (k : Task)
    → Clear st (turn_of turn t)
    → ends ≡ ends_of st
    → x ≡ turned_servers turn st t.0
    → m ≡ mode_after turn
    → k ≡ with_mode m (task_at st t.0)
    → record { state = with_task t.0 k (with_servers x.server st); answer = Ok x.count; ends = ends; acting = none } ≡ change_of st (turn_of turn t)
turned_does turn st t ends x m k clear e ex em ek =
    (λ i. record {
      state = with_task t.0 ((ek ∙ ap (λ y. with_mode y (task_at st t.0)) em) i) (with_servers (ex i).server st);
      answer = Ok (ex i).count;
      ends = (e ∙ sym (turned_ends turn st t (turned_servers turn st t.0).server clear)) i;
      acting = none;
    })
    ∙ turned_is turn st t

-- Dispatch, preempt and recharge: a server is no part of a chain
pub servers_next : (ss : List Server) (st : State) (t : ℕ) → next (with_servers ss st) t ≡ next st t
unfolding next owner_of present here
servers_next ss st t = refl

servers_ends : (ss : List Server) (st : State) → ends_of (with_servers ss st) ≡ ends_of st
servers_ends ss st = ends_same _ st (same_served _ st (servers_next ss st))

pub phased_does
    : (p : Phase) (st : State) (s : ℕ) (ends : List TaskNo) (executor : ServerNo) (k : ℕ) (x : Server)
    → s < places
    → ends ≡ ends_of st
    → executor ≡ record { 0 = executor_number (task_at st (get_or ends s (record { 0 = 0 })).0).runs }
    → k ≡ bit (eqb executor.0 s)
    → x ≡ with_phase p (server_at st s)
    → record { state = with_server s x st; answer = Ok k; ends = ends; acting = none } ≡ phased_change p st s
unfolding phased_change phased executor_of
phased_does p st s ends executor k x l e ee ek ex =
    let place = ap (λ y. y.0) ee ∙ ap (λ t. executor_number (task_at st t).runs) (end_served st ends s e l) in
    λ i. record {
      state = with_server s (ex i) st;
      answer = Ok ((ek ∙ ap (λ y. bit (eqb y s)) place) i);
      ends = (e ∙ sym (servers_ends (set st.server s (with_phase p (server_at st s))) st)) i;
      acting = none;
    }

pub recharged_does
    : (st : State) (s : ServerNo) (ends : List TaskNo) (p : Phase) (x : Server) (a : Bool) (k : ℕ)
    → s.0 < places
    → ends ≡ ends_of st
    → p ≡ (if suspended (task_at st (get_or ends s.0 (record { 0 = 0 })).0).mode then Idle else Active)
    → x ≡ refilled p st.clock (server_at st s.0)
    → a ≡ active (server_at (with_server s.0 x st) s.0).phase
    → k ≡ bit a
    → record { state = with_server s.0 x st; answer = Ok k; ends = ends; acting = none } ≡ change_of st (Recharge s)
unfolding change_of recharged recharged_phase
recharged_does st s ends p x a k l e ep ex ea ek =
    let phase : p ≡ recharged_phase st s.0 =
    ep ∙ ap (λ t. if suspended (task_at st t).mode then Idle else Active) (end_served st ends s.0 e l) in
    let entry = ex ∙ ap (λ q. refilled q st.clock (server_at st s.0)) phase in
    let same = servers_ends (set st.server s.0 (refilled (recharged_phase st s.0) st.clock (server_at st s.0))) st in
    let answer = ek ∙ ap bit (ea ∙ ap (λ y. active (server_at (with_server s.0 y st) s.0).phase) entry) in
    λ i. record { state = with_server s.0 (entry i) st; answer = Ok (answer i); ends = (e ∙ sym same) i; acting = none }

-- Elapse: a task keeps its mode, and executes where it did
abbrev pub keeps : Task → Mode × Runs
keeps k = (k.mode, k.runs)

pub elapsed_keeps : (st : State) (n t : ℕ) → keeps (task_at (elapsed st n) t) ≡ keeps (task_at st t)
unfolding elapsed each_server task_by ticked_task
elapsed_keeps st n t =
    split
    (ltb t (length st.task))
    (λ y.
    ap keeps (set_cases places t _ st.task no_task (ltb-true _ _ y))
    ∙ split (ltb t places) (λ l. rw l (split (here st t) (λ h. rw h) (λ m. rw m))) (λ g. rw g))
    (λ m.
    let past : length st.task ≤ t = ltb-false _ _ m in
    ap keeps (get_or-eq_default (set_to places _ st.task) no_task (rw (length_set_to places _ st.task) past) ∙ sym (get_or-eq_default st.task no_task past)))

elapsed_mode : (st : State) (n t : ℕ) → (task_at (elapsed st n) t).mode ≡ (task_at st t).mode
elapsed_mode st n t = ap (λ k. k.0) (elapsed_keeps st n t)

elapsed_here : (st : State) (n i : ℕ) → here (elapsed st n) i ≡ here st i
unfolding elapsed each_server here
elapsed_here st n i = refl

elapsed_owner : (st : State) (n r : ℕ) → owner_of (elapsed st n) r ≡ owner_of st r
unfolding elapsed each_server owner_of present here
elapsed_owner st n r = refl

elapsed_next : (st : State) (n t : ℕ) → next (elapsed st n) t ≡ next st t
unfolding next
elapsed_next st n t = rw (elapsed_here st n t, elapsed_mode st n t, elapsed_owner st n (awaited (task_at st t).mode))

elapsed_parts
    : (st : State) (n : ℕ) (x : Turned) (ts : List Task)
    → x ≡ spent_servers st n
    → ts ≡ ticked_tasks st n
    → with_clock (st.clock + n) (with_tasks ts (with_servers x.server st)) ≡ elapsed st n
unfolding elapsed each_server servers_by ticked_tasks
elapsed_parts st n x ts ex et = ap₂ (λ y us. with_clock (st.clock + n) (with_tasks us (with_servers y.server st))) ex et

pub elapsed_does
    : (st : State) (n : ℕ) (ends : List TaskNo) (x : Turned) (ts : List Task)
    → ends ≡ ends_of st
    → x ≡ spent_servers st n
    → ts ≡ ticked_tasks st n
    → record { state = with_clock (st.clock + n) (with_tasks ts (with_servers x.server st)); answer = Ok x.count; ends = ends; acting = none } ≡ change_of st (Elapse n)
unfolding change_of servers_by
elapsed_does st n ends x ts e ex et =
    λ i. record { state = made i; answer = Ok (counts i); ends = (e ∙ sym (ends_same _ st (same_served _ st (elapsed_next st n)))) i; acting = none }
  where
    made : with_clock (st.clock + n) (with_tasks ts (with_servers x.server st)) ≡ elapsed st n
    made = elapsed_parts st n x ts ex et

    counts : x.count ≡ (spent_servers st n).count
    counts = ap (λ y. y.count) ex

-- Unlock: a queue whose first places are those after the first, with the last in use given up, is the queue moved on
module _ (queue part : List TaskNo) (last : ℕ) (long : length queue ≡ 16) (inside : last < 16) where
  abbrev nought : TaskNo
  nought = record { 0 = 0 }

  module _ (same : length part ≡ last) (next : (k : ℕ) (d : TaskNo) → k < last → get_or part k d ≡ get_or queue (k + 1) d) where
    whole : length (part ++ drop last queue) ≡ 16
    whole = omega (arith, length-append part (drop last queue), length-drop last queue, same, long)

    abbrev moved : List TaskNo
    moved = set_to last (next_in_queue queue) queue

    sixteen : length moved ≡ 16
    sixteen = length_set_to last (next_in_queue queue) queue ∙ long

    place : (i : ℕ) → get_or (part ++ drop last queue) i nought ≡ get_or moved i nought
    unfolding next_in_queue
    place i =
        split
        (ltb i last)
        (λ y.
        let b = ltb-true i last y in
        get_or_append_left part (drop last queue) nought i (omega (arith, same))
        ∙ next i nought b
        ∙ sym (set_at_lem last i (next_in_queue queue) queue nought b (omega (arith, long))))
        (λ f.
        let g : last ≤ i = omega (arith, ltb-false i last f) in
        get_or-append_right part (drop last queue) last i nought same g
        ∙ get_or-drop last queue (i - last) nought
        ∙ ap (λ k. get_or queue k nought) (omega arith)
        ∙ sym (set_past last i (next_in_queue queue) queue nought (omega arith)))

    pub shift_done : set (part ++ drop last queue) last nought ≡ shifted queue last
    unfolding shifted
    shift_done =
        ap
        (λ q. set q last nought)
        (ext_get_or nought (part ++ drop last queue) moved (whole ∙ sym sixteen) (λ i l. place i))

joined_parts
    : (st : State) (t r : ℕ) (task : Task) (resource : Resource)
    → task ≡ with_mode (Waiting r) (task_at st t)
    → resource ≡ enqueued t (resource_at st r)
    → with_task t task (with_resource r resource st) ≡ joined st t r
unfolding joined
joined_parts st t r task resource p q = ap₂ (λ k x. with_task t k (with_resource r x st)) p q

-- servers behind a suspended chain end
module _ (st : State) (t end : ℕ) (q : end ≡ served st t) where
  pub rested_no : suspended (task_at st end).mode ≡ false → st ≡ rested_end st t
  unfolding rested_end
  rested_no h = rw (← q, h)

  pub rested_yes : (x : Turned) → suspended (task_at st end).mode ≡ true → x ≡ turned_servers Rests st end → with_servers x.server st ≡ rested_end st t
  unfolding rested_end rested each_server servers_by turned_server
  rested_yes x h e = rw (← q, h) (ap (λ y. with_servers y.server st) e)

rested_ends : (st : State) (t : ℕ) → ends_of (rested_end st t) ≡ ends_of st
unfolding rested_end rested each_server
rested_ends st t = split (suspended (task_at st (served st t)).mode) (λ y. rw y (servers_ends _ st)) (λ n. rw n)

-- the code's chain ends are those of the state that it has made
change_is
    : (u made : State) (a b : Answer) (ends : List TaskNo) (x : ServerNo) (s : ℕ)
    → u ≡ made
    → a ≡ b
    → ends ≡ ends_of made
    → x ≡ record { 0 = s }
    → ◌≡◌ {A = Change} (record { state = u; answer = a; ends = ends; acting = x }) (change_to made b s)
change_is u made a b ends x s m q e y = λ i. record { state = m i; answer = q i; ends = e i; acting = y i }

module _
    (st : State) (t : TaskNo) (r : ℕ) (x : ServerNo) (acts : x ≡ record { 0 = executor_number (task_at st t.0).runs })
    (task : Task) (resource : Resource) (ends : List TaskNo) where
  abbrev made : State
  made = with_task t.0 task (with_resource r resource st)

  pub granted_does
      : owned (resource_at st r).owner ≡ false
      → task ≡ pushed r (task_at st t.0)
      → resource ≡ with_owner (Some t) (resource_at st r)
      → ends ≡ ends_of made
      → record { state = made; answer = Granted r; ends = ends; acting = x } ≡ change_of st (Lock t r)
  unfolding change_of locked granted executor_of
  granted_does free p q e =
      let m = ap₂ (λ k y. with_task t.0 k (with_resource r y st)) p q in
      change_is made (granted st t.0 r) _ _ ends x _ m refl (e ∙ ap ends_of m) acts ∙ rw free

  pub freed_does
      : (resource_at st r).waiting ≡ 0
      → task ≡ popped (task_at st t.0)
      → resource ≡ with_owner None (resource_at st r)
      → ends ≡ ends_of made
      → record { state = made; answer = Freed r; ends = ends; acting = x } ≡ change_of st (Unlock t r)
  unfolding change_of unlocked freed executor_of
  freed_does none p q e =
      let m = ap₂ (λ k y. with_task t.0 k (with_resource r y st)) p q in
      change_is made (freed st t.0 r) _ _ ends x _ m refl (e ∙ ap ends_of m) acts ∙ rw (eq-eqb (resource_at st r).waiting 0 none)

  pub queued_does
      : (after : State) (end : TaskNo)
      → t.0 < places
      → owned (resource_at st r).owner ≡ true
      → task ≡ with_mode (Waiting r) (task_at st t.0)
      → resource ≡ enqueued t.0 (resource_at st r)
      → ends ≡ ends_of made
      → end ≡ get_or ends t.0 (record { 0 = 0 })
      → after ≡ rested_end made t.0
      → record { state = after; answer = Waits end; ends = ends; acting = x } ≡ change_of st (Lock t r)
  unfolding change_of locked executor_of
  queued_does after end l taken p q e en a =
      let j : made ≡ joined st t.0 r = joined_parts st t.0 r task resource p q in
      let m = a ∙ ap (λ u. rested_end u t.0) j in
      let f = e ∙ ap ends_of j ∙ sym (rested_ends (joined st t.0 r) t.0) in
      change_is after (rested_end (joined st t.0 r) t.0) _ _ ends x _ m
      (ap Waits (en ∙ (λ i. record { 0 = end_served _ ends t.0 f l i })))
      f
      acts
      ∙ rw taken

pub passed_does
    : (st : State) (t : TaskNo) (r : ℕ) (heir : TaskNo) (task ready waiter : Task) (shorter resource : Resource) (ends : List TaskNo) (x : ServerNo)
    → x ≡ record { 0 = executor_number (task_at st t.0).runs }
    → 0 < (resource_at st r).waiting
    → heir ≡ record { 0 = first_waiter (resource_at st r) }
    → task ≡ popped (task_at st t.0)
    → ready ≡ with_mode Ready (task_at st heir.0)
    → waiter ≡ pushed r ready
    → shorter ≡ dequeued (resource_at st r)
    → resource ≡ with_owner (Some heir) shorter
    → ends ≡ ends_of (with_task heir.0 waiter (with_task t.0 task (with_resource r resource st)))
    → record { state = with_task heir.0 waiter (with_task t.0 task (with_resource r resource st)); answer = Passed heir; ends = ends; acting = x } ≡ change_of st (Unlock t r)
unfolding change_of unlocked passed executor_of
passed_does st t r heir task ready waiter shorter resource ends x acts some f p q w y z e =
    let m : with_task heir.0 waiter (with_task t.0 task (with_resource r resource st)) ≡ passed st t.0 r (first_waiter (resource_at st r)) = rw (p, w, q, z, y, f) in
    change_is _ _ _ _ ends x _ m (ap Passed f) (e ∙ ap ends_of m) acts
    ∙ rw (ne_eqb (resource_at st r).waiting 0 (λ z. omega arith))
