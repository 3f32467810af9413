-- Conservation: what servers executed and lent is what tasks executed, and both are the ticks of the run. Each task that executes has one server that
-- executes it, so that both are counted alike; and of one task what its record grew by is the ticks for which servers executed it. Assumes nothing.
use Rattle.std.specs.Prelude.{if◌then◌else◌}
use Rattle.theory.proofs.Kit.{◌≡◌, refl, sym, ap, ◌∙◌, Bool, true, false, not, ◌&&◌, List, [], ◌∷◌, ℕ, zero, suc, ◌+◌, ◌<◌, ◌≤◌, arith, eqb, eq-eqb, ne_eqb}
use Prim.Native.Nat.{◌*◌}
use native.Mathlib.Nat.{mul-add, mul-one, mul-zero}
use Rattle.laws.specs.Tests.{bit}
use Rattle.laws.specs.Loops.{count_to, sum_to}
use Rattle.laws.proofs.Cases.{split, holds_fails, unheld_fails, and_left}
use Rattle.laws.proofs.Count.{bit_le, count_sum, count_zero, count_but_one}
use Rattle.laws.proofs.Sum.{sum_ext, sum_swap, sum_zero}
use Rattle.reordering.specs.Run.{after}
use Rattle.theory.proofs.Declared.{State, Table, Event}
use Rattle.model.specs.State.{places, server_at, task_at, here, served, running_at, executing, executes}
use Rattle.model.specs.Sound.{sound}
use Rattle.model.specs.Shape.{Shaped}
use Rattle.model.specs.Fresh.{fresh_state}
use Rattle.model.specs.Events.{lent_ticks}
use Rattle.model.specs.Step.{stepped, move}
use Rattle.model.proofs.Chain.{here_below, served_below}
use Rattle.model.proofs.Sound.{Loose, sound_facts}
use Rattle.model.proofs.RuleH.{serving_here}
use Rattle.theory.specs.Runs.{Accepted, reached, executes_in, lasts, ticks, ticks_for, total}
use Rattle.theory.specs.Rules.{Accounts}
use Rattle.fresh.proofs.Fresh.{fresh_sound, fresh_shaped}
use Rattle.theory.proofs.Soundness.{kept, executes_for, servers_count, servers_that_execute}
use Rattle.theory.proofs.Accounts.{event_adds}
use Rattle.theory.proofs.Unread.{stepped_here}

-- a sum that grows by k wherever p holds
sum_grows : (n k : ℕ) (p : ℕ → Bool) (f g : ℕ → ℕ) → ((i : ℕ) → i < n → f i ≡ g i + (if p i then k else 0)) → sum_to n f ≡ sum_to n g + k * count_to n p
unfolding sum_to count_to
sum_grows zero k p f g h = omega (arith, mul-zero k)
sum_grows (suc n) k p f g h =
    let before = sum_grows n k p f g (λ i l. h i (omega arith)) in
    let now = h n (omega arith) in
    split
    (p n)
    (λ y. rw y (omega (arith, before, rw y at now, mul-add k (count_to n p) 1, mul-one k)))
    (λ m. rw m (omega (arith, before, rw m at now, mul-add k (count_to n p) 0, mul-zero k)))

executes_here : (st : State) (i : ℕ) → executes st i ≡ true → here st i ≡ true
unfolding executes running_at
executes_here st i h = and_left (here st i) _ (and_left (running_at st i) _ h)

module _ (st : State) (facts : Loose st) where
  -- a server that executes does so for one task
  tasks_count : (s : ℕ) → bit (executes st s) ≡ count_to places (λ t. executes_in st t s)
  tasks_count s =
      split
      (executes st s)
      (λ y.
      let l : served st s < places = served_below st s (here_below st s (executes_here st s y)) in
      let k = count_but_one places (served st s) (λ t. executes_in st t s) (λ t. false) l
      (λ t m n. rw (y, ne_eqb (served st s) t (λ e. n (sym e)))) in
      omega (arith, k, ap bit y, ap bit (in_own y), count_zero places (λ t. false) (λ t m. refl)))
      (λ n. ap bit n ∙ sym (count_zero places (λ t. executes_in st t s) (λ t l. rw n)))
    where
      in_own : executes st s ≡ true → executes_in st (served st s) s ≡ true
      in_own y = rw (y, eq-eqb (served st s) (served st s) refl)

  -- and a task that executes has one server that does
  servers_all : (t : ℕ) → count_to places (executes_in st t) ≡ bit (executing st t)
  unfolding executing
  servers_all t =
      split
      (here st t)
      (servers_count st facts t)
      (λ n.
      count_zero places (executes_in st t) (λ s l. unheld_fails _ (λ h. holds_fails (serving_here st t s (executes_for st facts t s h)) n))
      ∙ rw n)

  -- so as many servers execute as tasks do
  executes_count : count_to places (executes st) ≡ count_to places (executing st)
  executes_count =
      count_sum places (executes st)
      ∙ sum_ext places _ _ (λ s l. tasks_count s ∙ count_sum places (λ t. executes_in st t s))
      ∙ sum_swap places places (λ s t. bit (executes_in st t s))
      ∙ sum_ext places _ _ (λ t l. sym (count_sum places (executes_in st t)) ∙ servers_all t)
      ∙ sym (count_sum places (executing st))

-- what a server gave to tasks
abbrev gave : State → ℕ → ℕ
gave st s = (server_at st s).own + (server_at st s).lent

abbrev did : State → ℕ → ℕ
did st t = (task_at st t).executed

-- a total that grows by n where p holds, of the same numbers in use
total_grows
    : (st next : State) (f g : ℕ → ℕ) (n : ℕ) (p : ℕ → Bool)
    → ((i : ℕ) → here next i ≡ here st i)
    → ((i : ℕ) → here st i ≡ false → p i ≡ false)
    → ((i : ℕ) → here st i ≡ true → f i ≡ g i + (if p i then n else 0))
    → total next f ≡ total st g + n * count_to places p
total_grows st next f g n p same out grows =
    sum_grows places n p _ _
    (λ i l.
    rw (same i)
    (split (here st i) (λ y. rw y (grows i y)) (λ m. rw (m, out i m))))

times_bit : (n : ℕ) (b : Bool) → n * bit b ≡ (if b then n else 0)
times_bit n true = mul-one n
times_bit n false = mul-zero n

own_lent : (a b : Bool) (n : ℕ) → (if a && b then n else 0) + (if a && not b then n else 0) ≡ (if a then n else 0)
own_lent true true n = omega arith
own_lent true false n = omega arith
own_lent false b n = refl

-- an event, with the ticks that pass in it
module _ (st : State) (s : sound st ≡ true) (e : Event) where
  abbrev next : State
  next = (stepped st e).state

  abbrev n : ℕ
  n = lasts st e

  facts : Loose st
  facts = ((sound_facts st).holds s).is_loose

  accounts : (i : ℕ) → here st i ≡ true → Accounts st next n i
  accounts i u = event_adds st s i u e

  did_grows : total next (did next) ≡ total st (did st) + n * count_to places (executing st)
  unfolding executing
  did_grows = total_grows st next (did next) (did st) n (executing st) (stepped_here st e) (λ i m. rw m) (λ i u. (accounts i u).executed)

  gave_grows : total next (gave next) ≡ total st (gave st) + n * count_to places (executing st)
  unfolding lent_ticks
  gave_grows =
      total_grows st next (gave next) (gave st) n (executes st) (stepped_here st e)
      (λ i m. unheld_fails _ (λ h. holds_fails (executes_here st i h) m))
      (λ i u.
      let a = accounts i u in
      omega (arith, a.own, a.lent, own_lent (executes st i) (eqb (served st i) i) n))
      ∙ ap (λ k. total st (gave st) + n * k) (executes_count st facts)

  -- of one task: as many ticks as servers execute it for
  one_grows : (t : ℕ) → here st t ≡ true → did next t ≡ did st t + n * count_to places (executes_in st t)
  one_grows t u =
      (accounts t u).executed
      ∙ ap (λ k. did st t + k) (sym (times_bit n (executing st t)) ∙ ap (λ k. n * k) (sym (servers_count st facts t u)))

-- a run
abbrev Totals : State → State → ℕ → Type 0
Totals st next k = (total next (gave next) ≡ total st (gave st) + k) × (total next (did next) ≡ total st (did st) + k)

run_totals : (st : State) → Shaped st → sound st ≡ true → (es : List Event) → Totals st (after move st es) (ticks st es)
unfolding after ticks
run_totals st shaped s [] = (omega arith, omega arith)
run_totals st shaped s (e ∷ es) =
    let k = kept st e shaped s in
    let rest = run_totals (stepped st e).state k.0 k.1 es in
    (omega (arith, gave_grows st s e, rest.0), omega (arith, did_grows st s e, rest.1))

run_each
    : (st : State) → Shaped st → sound st ≡ true → (es : List Event) (t : ℕ) → here st t ≡ true
    → did (after move st es) t ≡ did st t + ticks_for t st es
unfolding after ticks_for
run_each st shaped s [] t u = omega arith
run_each st shaped s (e ∷ es) t u =
    let k = kept st e shaped s in
    omega (arith, one_grows st s e t u, run_each (stepped st e).state k.0 k.1 es t (stepped_here st e t ∙ u))

run_here : (st : State) (es : List Event) (t : ℕ) → here (after move st es) t ≡ here st t
unfolding after
run_here st [] t = refl
run_here st (e ∷ es) t = run_here (stepped st e).state es t ∙ stepped_here st e t

-- nothing is spent in a fresh state: its clock is 0
module _ (st : State) (facts : Loose st) (zero-clock : st.clock ≡ 0) where
  none_did : (t : ℕ) → here st t ≡ true → did st t ≡ 0
  none_did t u = omega (arith, (facts.accounts t u).0)

  nothing : (total st (gave st) ≡ 0) × (total st (did st) ≡ 0)
  nothing = (
    sum_zero places _ (λ i l. split (here st i) (λ u. rw u (omega (arith, (facts.accounts i u).1))) (λ n. rw n)),
    sum_zero places _ (λ i l. split (here st i) (λ u. rw u (none_did i u)) (λ n. rw n)),
  )

fresh_clock : (tb : Table) → (fresh_state tb).clock ≡ 0
unfolding fresh_state
fresh_clock tb = refl

module _ (tb : Table) (a : Accepted tb) (es : List Event) where
  abbrev st : State
  st = fresh_state tb

  fresh_facts : Loose st
  fresh_facts = ((sound_facts st).holds (fresh_sound tb a)).is_loose

  pub ticks_are
      : (total (reached tb es) (gave (reached tb es)) ≡ total (reached tb es) (did (reached tb es))) ×
      (total (reached tb es) (did (reached tb es)) ≡ ticks st es)
  ticks_are =
      let g = run_totals st (fresh_shaped tb) (fresh_sound tb a) es in
      let z = nothing st fresh_facts (fresh_clock tb) in
      (omega (arith, g.0, g.1, z.0, z.1), omega (arith, g.1, z.1))

  pub each_tick_once
      : (t : ℕ) → here (reached tb es) t ≡ true
      → (did (reached tb es) t ≡ ticks_for t st es) × (count_to places (executes_in (reached tb es) t) ≤ 1)
  each_tick_once t u =
      let used : here st t ≡ true = sym (run_here st es t) ∙ u in (
        omega (arith, run_each st (fresh_shaped tb) (fresh_sound tb a) es t used, none_did st fresh_facts (fresh_clock tb) t used),
        rw (servers_that_execute tb a es t u).0 (bit_le (executing (reached tb es) t)),
      )
