-- Rule H on arrays says what model/specs/RuleH.antt says, task by task; and the laws by which each loop of the code computes its array.
-- Assumes nothing.
use Rattle.std.specs.Prelude.{if◌then◌else◌}
use mathlib.Core.Path.{◌≡◌, refl, sym, ap, ap₂, ◌∙◌}
use mathlib.Core.Bool.{true, false}
use mathlib.Core.List.{List}
use Prim.Native.Nat.{ℕ, ◌+◌, ◌<◌, ◌≤◌}
use native.Mathlib.Numerals.{add-one}
use native.Mathlib.Omega.{arith}
use lib.Dec.{ltb, eqb}
use lib.ListN.{length, get_or, set, replicate, length-set}
use lib.Seq.{ext_get_or}
use borrow.Author.Tests.{eqb-true, eqb-false, eq-eqb, ne_eqb, lt-ltb, ltb-true, ltb-false}
use Rattle.laws.specs.Loops.{set_to, fold_to, best_to, better_of}
use Rattle.laws.proofs.Cases.{split, and_left}
use Rattle.laws.proofs.Lists.{get_d_set, replicate_at}
use Rattle.laws.proofs.Set.{length_set_to, set_at_lem, set_past, set_more, set_same, set_skip, set_kept}
use Rattle.laws.proofs.Fold.{turns_done}
use Rattle.laws.proofs.Best.{best_ext}
use Rattle.model.specs.State.{Runs, places, nobody, no_task, task_at, in_use, here, executor_number, executor_of, served, running_at, running_for}
use Rattle.model.specs.declared.TaskNo.{TaskNo}
use Rattle.model.specs.declared.ServerNo.{ServerNo}
use Rattle.model.specs.declared.Task.{Task}
use Rattle.model.specs.declared.State.{State}
use Rattle.model.specs.RuleH.{budget_at, chosen, executor_by, runs_in, with_runs, with_tasks, settled_task, settled}
use Rattle.model.proofs.Chain.{here_past}
use Rattle.chain.specs.Arrays.{server_of, servers_of, ends_of, on_at, on_by, budget_in, budgets_of}
use Rattle.chain.proofs.Arrays.{tasks_at, servers_at, servers_same, ends_at}
use Rattle.settle.specs.Computed.{serves_by, better_by, budget_by, best_by, bests_by, executor_in, settled_task_by, settled_to, settled_by}

running_past : (st : State) (s : ℕ) → places ≤ s → running_at st s ≡ false
unfolding running_at
running_past st s l = rw (here_past st s l)

-- one entry more is right, and the others were
servers_one
    : (f g : ℕ → ℕ) (t : ℕ) (v : ServerNo) (xs : List ServerNo)
    → t < places
    → ((i : ℕ) → i < places → (i ≡ t → ⊥) → f i ≡ g i)
    → xs ≡ servers_of f
    → v ≡ record { 0 = g t }
    → set xs t v ≡ servers_of g
unfolding servers_of server_of
servers_one f g t v xs l same e w =
    ext_get_or none (set xs t v) (servers_of g) (length-set xs t v ∙ sixteen ∙ sym (length_set_to places (server_of g) blank))
    (λ i m. at i (omega (arith, length-set xs t v, sixteen)))
  where
    none : ServerNo
    none = record { 0 = nobody }

    blank : List ServerNo
    blank = replicate places none

    sixteen : length xs ≡ places
    sixteen = ap length e ∙ length_set_to places (server_of f) blank

    entry : (h : ℕ → ℕ) (i : ℕ) → i < places → get_or (servers_of h) i none ≡ record { 0 = h i }
    entry h i k = set_at_lem places i (server_of h) blank none k k

    at : (i : ℕ) → i < places → get_or (set xs t v) i none ≡ get_or (servers_of g) i none
    at i k =
        get_d_set xs t i v none (omega (arith, sixteen))
        ∙ split
        (eqb i t)
        (λ y. rw y (w ∙ (λ j. record { 0 = g (sym (eqb-true i t y) j) }) ∙ sym (entry g i k)))
        (λ n. rw n (ap (λ ys. get_or ys i none) e ∙ entry f i k ∙ (λ j. record { 0 = same i k (eqb-false i t n) j }) ∙ sym (entry g i k)))

-- one server more: it is compared where it serves, and changes nothing elsewhere
module _ (on : List TaskNo) (budgets : List ℕ) (s t : ℕ) where
  best_yes : serves_by on t s ≡ true → better_by budgets s (best_by on budgets s t) ≡ best_by on budgets (s + 1) t
  unfolding better_by best_by best_to fold_to better_of budget_by
  best_yes h = rw (add-one, h)

  best_no : serves_by on t s ≡ false → best_by on budgets s t ≡ best_by on budgets (s + 1) t
  unfolding best_by best_to fold_to better_of
  best_no h = rw (add-one, h)

module _ (on : List TaskNo) (t s : ℕ) where
  serves_yes : s < places → t ≡ (get_or on s (record { 0 = 0 })).0 → serves_by on t s ≡ true
  unfolding serves_by
  serves_yes l e = rw (lt-ltb s places l) (eq-eqb _ t (sym e))

  serves_no : (t ≡ (get_or on s (record { 0 = 0 })).0 → ⊥) → serves_by on t s ≡ false
  unfolding serves_by
  serves_no n = rw (ne_eqb (get_or on s (record { 0 = 0 })).0 t (λ e. n (sym e))) (split (ltb s places) (λ y. rw y) (λ f. rw f))

-- the one pass of step 3 over the servers
module _ (on : List TaskNo) (budgets : List ℕ) where
  pub bests_none : replicate places (record { 0 = 16 }) ≡ servers_of (best_by on budgets 0)
  unfolding servers_of server_of best_by best_to fold_to
  bests_none = sym (set_kept _ places _ (record { 0 = nobody }) (λ i l. sym (replicate_at places i (record { 0 = nobody }))))

  pub bests_more
      : (xs : List ServerNo) (s t : ℕ) (v : ServerNo)
      → s < places
      → t ≡ (get_or on s (record { 0 = 0 })).0
      → t < places
      → v ≡ record { 0 = better_by budgets s (get_or xs t (record { 0 = 0 })).0 }
      → xs ≡ servers_of (best_by on budgets s)
      → set xs t v ≡ servers_of (best_by on budgets (s + 1))
  bests_more xs s t v k q l w e =
      let so_far : (get_or xs t (record { 0 = 0 })).0 ≡ best_by on budgets s t = ap (λ (ys : List ServerNo). (get_or ys t (record { 0 = 0 })).0) e ∙ servers_at _ t l in
      servers_one _ _ t v xs l
      (λ i m n. best_no on budgets s i (serves_no on i s (λ p. n (p ∙ sym q))))
      e
      (w ∙ (λ j. record { 0 = (ap (better_by budgets s) so_far ∙ best_yes on budgets s t (serves_yes on t s k q)) j }))

  pub bests_skip
      : (xs : List ServerNo) (s : ℕ)
      → places ≤ (get_or on s (record { 0 = 0 })).0
      → xs ≡ servers_of (best_by on budgets s)
      → xs ≡ servers_of (best_by on budgets (s + 1))
  bests_skip xs s l e = e ∙ servers_same _ _ (λ i m. best_no on budgets s i (serves_no on i s (λ p. omega arith)))

  pub bests_done : (xs : List ServerNo) (s : ℕ) → s ≤ places → places ≤ s → xs ≡ servers_of (best_by on budgets s) → xs ≡ bests_by on budgets
  unfolding bests_by
  bests_done xs s l m e = turns_done (λ n. servers_of (best_by on budgets n)) s places xs l m e

-- the loop that writes the executors
module _ (on : List TaskNo) (best : List ServerNo) (acting : ℕ) (st : State) where
  pub settled_none : st ≡ settled_to on best acting st 0
  unfolding settled_to set_to
  settled_none = refl

  -- entries that the loop has not reached are as they were
  ahead : (t : ℕ) (after : State) → after ≡ settled_to on best acting st t → task_at after t ≡ task_at st t
  unfolding settled_to
  ahead t after so_far = ap (λ a. task_at a t) so_far ∙ set_past t t _ st.task no_task (omega arith)

  pub settled_more
      : (t : ℕ) (before s : ServerNo) (runs : Runs) (entry : Task) (after : State)
      → in_use st.tasks t ≡ true
      → before ≡ record { 0 = executor_number (task_at after t).runs }
      → s ≡ record { 0 = executor_in on before.0 acting (get_or best t (record { 0 = 0 })).0 t }
      → runs ≡ runs_in s.0
      → entry ≡ with_runs runs (task_at after t)
      → after ≡ settled_to on best acting st t
      → with_tasks (set after.task t entry) after ≡ settled_to on best acting st (t + 1)
  unfolding settled_to settled_task_by here executor_of
  settled_more t before s runs entry after used p e x w so_far =
      let was = ap (λ b. b.0) p ∙ ap (λ k. executor_number k.runs) (ahead t after so_far) in
      ap (λ a. with_tasks (set a.task t entry) a) so_far
      ∙ ap (λ ts. with_tasks ts st) (set_more _ t _ _ entry (w ∙ ap (with_runs runs) (ahead t after so_far) ∙ rw (used, x, e, was)) refl)

  pub settled_skip
      : (t : ℕ) (after : State)
      → in_use st.tasks t ≡ false
      → after ≡ settled_to on best acting st t
      → after ≡ settled_to on best acting st (t + 1)
  unfolding settled_to settled_task_by here
  settled_skip t after past so_far = so_far ∙ ap (λ ts. with_tasks ts st) (set_skip _ t st.task _ no_task (rw past) refl)

-- rule H on the arrays of a state is rule H
module _ (st : State) where
  abbrev on : List TaskNo
  on = on_by st.server st.tasks (ends_of st)

  abbrev budgets : List ℕ
  budgets = budgets_of st.server st.tasks

  on_at_lem : (s : ℕ) → s < places → (get_or on s (record { 0 = 0 })).0 ≡ (if running_at st s then served st s else nobody)
  unfolding on_by on_at running_at here
  on_at_lem s l =
      tasks_at _ s l
      ∙ split
      (in_use st.tasks s)
      (λ y. rw (y, ends_at st s l))
      (λ n. rw n)

  serves_is : (t s : ℕ) → t < places → serves_by on t s ≡ running_for st t s
  unfolding serves_by running_for
  serves_is t s l =
      split
      (ltb s places)
      (λ y.
      split
      (running_at st s)
      (λ r. rw (y, on_at_lem s (ltb-true _ _ y), r))
      (λ r. rw (y, on_at_lem s (ltb-true _ _ y), r) (ne_eqb nobody t (λ e. omega arith))))
      (λ n. rw (n, running_past st s (ltb-false _ _ n)))

  budget_is : (t s : ℕ) → s < places → serves_by on t s ≡ true → t < places → budget_by budgets s ≡ budget_at st s
  unfolding budget_by budgets_of budget_in budget_at running_for running_at here
  budget_is t s l h k =
      let u = and_left (here st s) _ (and_left (running_at st s) _ (sym (serves_is t s k) ∙ h)) in
      set_at_lem places s _ _ 0 l l ∙ rw u

  best_is_chosen : (t : ℕ) → t < places → (get_or (bests_by on budgets) t (record { 0 = 0 })).0 ≡ chosen st t
  unfolding bests_by best_by chosen
  best_is_chosen t l =
      servers_at _ t l
      ∙ best_ext nobody places (serves_by on t) (running_for st t) (budget_by budgets) (budget_at st)
      (λ s k. serves_is t s l)
      (λ s k h. budget_is t s k h l)
      (omega arith)

  executor_is
      : (before acting t : ℕ)
      → t < places
      → executor_in on before acting (get_or (bests_by on budgets) t (record { 0 = 0 })).0 t ≡ executor_by st before acting t
  unfolding executor_in executor_by
  executor_is before acting t l = rw (serves_is t before l, serves_is t acting l, best_is_chosen t l)

  task_is : (acting t : ℕ) → t < places → settled_task_by on (bests_by on budgets) acting st t ≡ settled_task st acting st t
  unfolding settled_task_by settled_task
  task_is acting t l = split (here st t) (λ y. rw (y, executor_is (executor_of st t) acting t l)) (λ n. rw n)

  settled_by_lem : (acting : ℕ) → settled_by (ends_of st) acting st ≡ settled st acting st
  unfolding settled_by settled_to settled
  settled_by_lem acting = ap (λ ts. with_tasks ts st) (set_same _ _ places st.task (task_is acting))

-- the loop's end
pub settled_done
    : (ends on : List TaskNo) (budgets : List ℕ) (best : List ServerNo) (acting : ℕ) (st after : State) (t : ℕ)
    → ends ≡ ends_of st
    → on ≡ on_by st.server st.tasks ends
    → budgets ≡ budgets_of st.server st.tasks
    → best ≡ bests_by on budgets
    → t ≤ places
    → places ≤ t
    → after ≡ settled_to on best acting st t
    → after ≡ settled st acting st
unfolding settled_by
settled_done ends on budgets best acting st after t n o b m l g so_far =
    turns_done (settled_to on best acting st) t places after l g so_far
    ∙ ap₂ (λ x y. settled_to x y acting st places) o (m ∙ ap₂ bests_by o b)
    ∙ ap (λ x. settled_by x acting st) n
    ∙ settled_by_lem st acting

-- of the state before only who executed counts
pub settled_before : (old st : State) (acting : ℕ) → ((t : ℕ) → executor_of old t ≡ executor_of st t) → settled st acting st ≡ settled old acting st
unfolding settled settled_task
settled_before old st acting same =
    ap (λ ts. with_tasks ts st) (set_same _ _ places st.task (λ t l. rw (same t)))
