-- What the arrays have at each place; that links and walk come to the chain ends; and what each loop of the code reads. Assumes nothing.
use Rattle.std.specs.Prelude.{if◌then◌else◌}
use mathlib.Core.Path.{◌≡◌, refl, sym, ◌∙◌, ap, ap₂}
use mathlib.Core.List.{List}
use Prim.Native.Nat.{ℕ, zero, suc, ◌-◌, ◌<◌, ◌≤◌}
use native.Mathlib.Numerals.{sub-one}
use native.Mathlib.Omega.{arith}
use lib.Dec.{ltb}
use lib.ListN.{length, get_or}
use borrow.Author.Tests.{ltb-true, ltb-false}
use Rattle.laws.proofs.Cases.{split}
use Rattle.laws.proofs.Set.{set_same}
use Rattle.laws.proofs.Made.{made_each}
use Rattle.laws.proofs.Making.{made_at}
use Rattle.model.specs.declared.TaskNo.{TaskNo}
use Rattle.model.specs.declared.State.{State}
use Rattle.model.specs.State.{places, nobody, here, in_use, owner_of, next, chain_end, served, running_at}
use Rattle.model.proofs.Chain.{owner_past, next_past, present_past, here_past, served_below}
use Rattle.chain.specs.Arrays.{array_of, task_of, tasks_of, server_of, servers_of, owners_of, wanted, wanted_of, ends_of, runs_for, on_at, on_by}
use Rattle.chain.specs.Computed.{number_at, numbers_of, at_or_nobody, link_at, links_by, end_step, end_by, ends_by}

-- what stands at a place
module _ (f : ℕ → ℕ) (i : ℕ) (l : i < places) where
  pub array_at : get_or (array_of f) i 0 ≡ f i
  unfolding array_of
  array_at = made_at places f nobody 0 i l

  pub tasks_at : (get_or (tasks_of f) i (record { 0 = 0 })).0 ≡ f i
  unfolding tasks_of task_of
  tasks_at = ap (λ t. t.0) (made_at places (task_of f) (record { 0 = nobody }) (record { 0 = 0 }) i l)

  pub servers_at : (get_or (servers_of f) i (record { 0 = 0 })).0 ≡ f i
  unfolding servers_of server_of
  servers_at = ap (λ s. s.0) (made_at places (server_of f) (record { 0 = nobody }) (record { 0 = 0 }) i l)

-- arrays with the same at each place
module _ (f g : ℕ → ℕ) (same : (i : ℕ) → i < places → f i ≡ g i) where
  pub array_same : array_of f ≡ array_of g
  unfolding array_of
  array_same = set_same f g places _ same

  pub tasks_same : tasks_of f ≡ tasks_of g
  unfolding tasks_of task_of
  tasks_same = set_same (task_of f) (task_of g) places _ (λ i l j. record { 0 = same i l j })

  pub servers_same : servers_of f ≡ servers_of g
  unfolding servers_of server_of
  servers_same = set_same (server_of f) (server_of g) places _ (λ i l j. record { 0 = same i l j })

pub ends_at : (st : State) (i : ℕ) → i < places → (get_or (ends_of st) i (record { 0 = 0 })).0 ≡ served st i
unfolding ends_of
ends_at st i l = tasks_at (served st) i l

module _ (st : State) (ends : List TaskNo) (s : ℕ) (e : ends ≡ ends_of st) (l : s < places) where
  pub end_served : (get_or ends s (record { 0 = 0 })).0 ≡ served st s
  end_served = ap (λ (xs : List TaskNo). (get_or xs s (record { 0 = 0 })).0) e ∙ ends_at st s l

  pub end_below : (get_or ends s (record { 0 = 0 })).0 < places
  end_below = rw end_served (served_below st s l)

-- of a state with the same chains
pub ends_same : (st u : State) → ((s : ℕ) → served st s ≡ served u s) → ends_of st ≡ ends_of u
unfolding ends_of
ends_same st u same = tasks_same _ _ (λ i l. same i)

-- whom a server serves while it is Running
pub on_served : (st : State) (s : ℕ) → s < places → on_at st.server st.tasks (ends_of st) s ≡ runs_for st s
unfolding runs_for on_at running_at here
on_served st s l = split (in_use st.tasks s) (λ y. rw (y, ends_at st s l)) (λ n. rw n)

-- tasks' numbers as plain numbers
pub numbers_tasks : (f : ℕ → ℕ) → numbers_of (tasks_of f) ≡ array_of f
unfolding numbers_of number_at
numbers_tasks f = array_same _ f (tasks_at f)

pub number_at_lem : (xs : List TaskNo) (i : ℕ) → i < places → get_or (numbers_of xs) i 0 ≡ (get_or xs i (record { 0 = 0 })).0
unfolding numbers_of number_at
number_at_lem xs i l = array_at (number_at xs) i l

-- an array read at any place, where its function has nobody past the end
array_any : (f : ℕ → ℕ) → ((i : ℕ) → places ≤ i → f i ≡ nobody) → (i : ℕ) → at_or_nobody (array_of f) i ≡ f i
unfolding at_or_nobody
array_any f past i =
    split
    (ltb i places)
    (λ y. rw y (array_at f i (ltb-true i places y)))
    (λ n. rw n (sym (past i (ltb-false i places n))))

pub owner_is : (st : State) (r : ℕ) → at_or_nobody (array_of (owner_of st)) r ≡ owner_of st r
owner_is st = array_any (owner_of st) (λ r l. owner_past st r (present_past st r l))

pub wanted_is : (st : State) (t : ℕ) → at_or_nobody (wanted_of st) t ≡ wanted st t
unfolding wanted_of wanted
wanted_is st = array_any (wanted st) (λ t l. rw (here_past st t l))

pub runs_for_is : (st : State) (s : ℕ) → at_or_nobody (array_of (runs_for st)) s ≡ runs_for st s
unfolding runs_for running_at
runs_for_is st = array_any (runs_for st) (λ s l. rw (here_past st s l))

-- the owner of what a task waits for is its link
module _ (st : State) where
  wanted_owner : (t : ℕ) → owner_of st (wanted st t) ≡ next st t
  unfolding wanted next
  wanted_owner t = split (here st t) (λ y. rw y) (λ n. rw n (owner_past st nobody (present_past st nobody (omega arith))))

  pub link_is : (t : ℕ) → t < places → link_at (array_of (owner_of st)) (wanted_of st) t ≡ next st t
  unfolding link_at wanted_of
  link_is t l = ap (at_or_nobody (array_of (owner_of st))) (array_at (wanted st) t l) ∙ owner_is st (wanted st t) ∙ wanted_owner t

  links_are : links_by (array_of (owner_of st)) (wanted_of st) ≡ array_of (next st)
  unfolding links_by
  links_are = array_same _ (next st) link_is

  -- one step of the walk is a link of the chain
  step_is : (t : ℕ) (rest : ℕ → ℕ) → end_step rest (array_of (next st)) t ≡ (if ltb (next st t) places then rest (next st t) else t)
  unfolding end_step
  step_is t rest =
      split
      (ltb t places)
      (λ y. rw (y, array_at (next st) t (ltb-true _ _ y)))
      (λ n. rw (n, next_past st t (here_past st t (ltb-false _ _ n))))

  end_by_lem : (left t : ℕ) → end_by left (array_of (next st)) t ≡ chain_end left st t
  unfolding end_by chain_end
  end_by_lem zero t = refl
  end_by_lem (suc left) t = step_is t (end_by left (array_of (next st))) ∙ ap (λ e. if ltb (next st t) places then e else t) (end_by_lem left (next st t))

  -- the walk along the links that the code makes
  module _ (owners wants : List ℕ) (oe : owners ≡ array_of (owner_of st)) (we : wants ≡ wanted_of st) where
    pub walk_end : (links : List ℕ) (t end : ℕ) → links ≡ links_by owners wants → end ≡ end_by places links t → end ≡ served st t
    unfolding served
    walk_end links t end l e = e ∙ ap (λ xs. end_by places xs t) (l ∙ ap₂ links_by oe we ∙ links_are) ∙ end_by_lem places t

    pub ends_are : ends_by owners wants ≡ ends_of st
    unfolding ends_by ends_of
    ends_are = tasks_same _ _ (λ t l. walk_end _ t _ refl refl)

  -- what the code makes of owners and of Running servers
  pub owners_read : (held : List TaskNo) (owners : List ℕ) → held ≡ owners_of st → owners ≡ numbers_of held → owners ≡ array_of (owner_of st)
  unfolding owners_of
  owners_read held owners h e = e ∙ ap numbers_of h ∙ numbers_tasks (owner_of st)

  pub runs_for_read
      : (ends on : List TaskNo) (runsBy : List ℕ)
      → ends ≡ ends_of st
      → on ≡ on_by st.server st.tasks ends
      → runsBy ≡ numbers_of on
      → runsBy ≡ array_of (runs_for st)
  unfolding on_by
  runs_for_read ends on runsBy ee o e =
      e ∙ ap numbers_of (o ∙ ap (λ xs. on_by st.server st.tasks xs) ee) ∙ numbers_tasks _ ∙ array_same _ (runs_for st) (on_served st)

-- the walk's two ways out, for the code
pub end_none : (links : List ℕ) (t left : ℕ) → left ≡ 0 → t ≡ end_by left links t
unfolding end_by
end_none links t left e = rw e

pub end_more : (links : List ℕ) (t left r : ℕ) → (left ≡ 0 → ⊥) → r ≡ end_step (end_by (left - 1) links) links t → r ≡ end_by left links t
unfolding end_by
end_more links t zero r f e = absurd (f refl)
end_more links t (suc left) r f e = e ∙ ap (λ k. end_step (end_by k links) links t) (sub-one (suc left))

-- an array that has f i at each place i
module _ (f : ℕ → ℕ) where
  pub array_made : (ys : List ℕ) → length ys ≡ places → ((i : ℕ) → i < places → get_or ys i nobody ≡ f i) → ys ≡ array_of f
  unfolding array_of
  array_made ys long at = made_each places f nobody ys long at

  pub tasks_made
      : (ys : List TaskNo) → length ys ≡ places → ((i : ℕ) → i < places → get_or ys i (record { 0 = nobody }) ≡ record { 0 = f i }) → ys ≡ tasks_of f
  unfolding tasks_of task_of
  tasks_made ys long at = made_each places (task_of f) (record { 0 = nobody }) ys long at
