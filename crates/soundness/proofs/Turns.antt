-- What the code's loops cite: what a turn reads, and the two ways out of a test of all. Assumes nothing.
use Rattle.std.specs.Prelude.{if◌then◌else◌}
use mathlib.Core.Path.{◌≡◌, sym, ap, ap₂, ◌∙◌}
use mathlib.Core.Bool.{Bool, true, false, ◌&&◌}
use mathlib.Core.List.{List}
use Prim.Native.Nat.{ℕ, ◌+◌, ◌*◌, ◌<◌, ◌≤◌}
use native.Mathlib.Nat.{add-zero}
use native.Mathlib.Omega.{arith}
use lib.ListN.{get_or}
use Rattle.laws.specs.Loops.{sum_to}
use Rattle.laws.proofs.Cases.{if_yes, if_no}
use Rattle.laws.proofs.Sum.{sum_none, sum_more}
use Rattle.model.specs.declared.TaskNo.{TaskNo}
use Rattle.model.specs.declared.State.{State}
use Rattle.model.specs.State.{places, task_at, resource_at, server_at, owner_of, next, served}
use Rattle.model.proofs.Chain.{served_below}
use Rattle.chain.specs.Arrays.{array_of, wanted_of, ends_of, runs_for}
use Rattle.chain.specs.Computed.{at_or_nobody, link_at}
use Rattle.chain.proofs.Arrays.{array_at, end_served, link_is}
use Rattle.soundness.specs.Computed.{resource_passes, resource_passes_at, server_passes, server_passes_at, executes_passes}

-- the two ways out of a test of two
pub and_goes : (a b x y : Bool) → x ≡ a → x ≡ true → y ≡ b → y ≡ (a && b)
and_goes a b x y e h f = rw (sym e ∙ h) f

pub and_stops : (a b x : Bool) → x ≡ a → x ≡ false → x ≡ (a && b)
and_stops a b x e h = rw (sym e ∙ h) h

-- a loop that adds up the sizes of the places in use, which are numbers of 16 bits
module _ (used : ℕ → Bool) (size : ℕ → ℕ) where
  abbrev pub counted : ℕ → ℕ
  counted i = if used i then size i else 0

  abbrev pub Counted : ℕ → ℕ → Type 0
  Counted i total = (i ≤ places) × (total ≤ 65535 * i) × (total ≡ sum_to i counted)

  pub counted_none : Counted 0 0
  counted_none = (omega arith, omega arith, sum_none counted)

  module _ (i total now : ℕ) (inside : i < places) (h : Counted i total) where
    pub counted_more : (v : ℕ) → used i ≡ true → v ≡ size i → v < 65536 → now ≡ total + v → Counted (i + 1) now
    counted_more v u s l e = (omega arith, omega (arith, h.1), e ∙ sum_more counted i total v (s ∙ sym (if_yes _ _ _ u)) h.2)

    pub counted_skip : used i ≡ false → now ≡ total → Counted (i + 1) now
    counted_skip u e = (omega arith, omega (arith, h.1), e ∙ sym (add-zero total) ∙ sum_more counted i total 0 (sym (if_no _ _ _ u)) h.2)

pub resource_read
    : (st : State) (owners wants : List ℕ) (r : ℕ) (x : Bool)
    → r < places
    → owners ≡ array_of (owner_of st)
    → wants ≡ wanted_of st
    → x ≡ resource_passes (get_or owners r 0) wants r (resource_at st r)
    → x ≡ resource_passes_at st r
unfolding resource_passes_at
resource_read st owners wants r x l o w e =
    e ∙ ap₂ (λ n xs. resource_passes n xs r (resource_at st r)) (ap (λ xs. get_or xs r 0) o ∙ array_at (owner_of st) r l) w

-- the two tests of a server, with the link that leads on from the end of its chain: x is the first as the code reads it, y the second
module _
    (st : State)
    (owners wants : List ℕ)
    (ends : List TaskNo)
    (i link : ℕ)
    (l : i < places)
    (oe : owners ≡ array_of (owner_of st))
    (we : wants ≡ wanted_of st)
    (ee : ends ≡ ends_of st)
    (le : link ≡ at_or_nobody owners (get_or wants (get_or ends i (record { 0 = 0 })).0 0))
    (x : Bool)
    (xe : x ≡ server_passes st.clock (server_at st i) link (task_at st (get_or ends i (record { 0 = 0 })).0))
  where
    link_read : link ≡ next st (served st i)
    unfolding link_at
    link_read = le ∙ rw (oe, we, end_served st ends i ee l) (link_is st (served st i) (served_below st i l))

    first : x ≡ server_passes st.clock (server_at st i) (next st (served st i)) (task_at st (served st i))
    first = xe ∙ ap₂ (λ n t. server_passes st.clock (server_at st i) n (task_at st t)) link_read (end_served st ends i ee l)

    pub server_fails : x ≡ false → server_passes_at st i ≡ false
    unfolding server_passes_at
    server_fails e = rw (sym first ∙ e)

    pub server_both
        : (runsBy : List ℕ) (y : Bool)
        → runsBy ≡ array_of (runs_for st)
        → y ≡ executes_passes runsBy i (task_at st i).runs
        → x ≡ true
        → y ≡ server_passes_at st i
    unfolding server_passes_at
    server_both runsBy y re ye e = rw (sym first ∙ e) (ye ∙ ap (λ xs. executes_passes xs i (task_at st i).runs) re)
