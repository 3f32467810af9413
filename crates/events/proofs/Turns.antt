-- The loop over the servers that makes each in use anew and counts some of them, and what it makes of one server, in use or not. Assumes nothing.
use Rattle.std.specs.Prelude.{if◌then◌else◌}
use mathlib.Core.Path.{◌≡◌, refl, sym, ◌∙◌, ap, ap₂}
use mathlib.Core.Bool.{Bool, true, false, ◌&&◌}
use mathlib.Core.List.{List}
use Prim.Native.Nat.{ℕ, ◌+◌, ◌<◌, ◌≤◌}
use native.Mathlib.Omega.{arith}
use lib.Dec.{eqb}
use lib.ListN.{set}
use Rattle.laws.specs.Tests.{bit}
use Rattle.laws.specs.Loops.{count_to}
use Rattle.laws.proofs.Cases.{if_yes, if_no}
use Rattle.laws.proofs.Count.{bit_le, count_none, count_more, count_same, count_done}
use Rattle.laws.proofs.Making.{Making, making_none, making_more, making_skip, making_done}
use Rattle.model.specs.declared.ServerNo.{ServerNo}
use Rattle.model.specs.declared.Server.{Server}
use Rattle.model.specs.declared.State.{State}
use Rattle.model.specs.State.{places, no_server, server_at, task_at, here, served, running, running_at, executor_number, executor_of, executes}
use Rattle.model.specs.Events.{server_by, wakes, woken_server, rests, rested_server}
use Rattle.events.specs.declared.turning.Turn.{Turn}
use Rattle.events.specs.declared.turning.Turn.TheVariants.{Wakes, Rests}
use Rattle.events.specs.Computed.{concerns, turned, servers_by, turns, turned_server}

-- the loop after s turns: each server in use made anew by f, those for which p holds counted
pub record Counting (st : State) (p : ℕ → Bool) (f : ℕ → Server) (s count : ℕ) (servers : List Server) : Type 0 where
  pub made : Making places (server_by st f) st.server s servers
  pub most : count ≤ s
  pub counted : count ≡ count_to s p

module _ {st : State} {p : ℕ → Bool} {f : ℕ → Server} where
  pub counting_none : Counting st p f 0 0 st.server
  counting_none = record { made = making_none refl; most = omega arith; counted = count_none p }

  module _ {s count sum : ℕ} {servers after : List Server} (below : s < places) (so_far : Counting st p f s count servers) where
    pub counting_more
        : {x : Server} {more : ℕ} {b : Bool}
        → here st s ≡ true
        → after ≡ set servers s x
        → x ≡ f s
        → sum ≡ count + more
        → more ≡ bit b
        → b ≡ p s
        → Counting st p f (s + 1) sum after
    unfolding server_by
    counting_more {x} {more} {b} h e v k m c =
        record { made = making_more below e (v ∙ sym (if_yes _ _ _ h)) so_far.made; most = omega (arith, k, m, so_far.most, bit_le b); counted = k ∙ ap (λ n. count + n) m ∙ count_more _ _ _ _ c so_far.counted }

    pub counting_skip : here st s ≡ false → after ≡ servers → sum ≡ count → false ≡ p s → Counting st p f (s + 1) sum after
    unfolding server_by
    counting_skip h e k c =
        record { made = making_skip below no_server e (if_no _ _ _ h) so_far.made; most = omega (arith, k, so_far.most); counted = k ∙ count_same _ _ _ c so_far.counted }

  pub counting_done : {s count : ℕ} {servers : List Server} → places ≤ s → Counting st p f s count servers → record { server = servers; count = count } ≡ servers_by st p f
  unfolding servers_by
  counting_done l h = λ i. record { server = making_done l h.made i; count = count_done p _ _ _ h.made.inside l h.counted i }

-- a server past the count does not run
pub running_here : (st : State) (s : ℕ) (b : Bool) → here st s ≡ true → b ≡ running (server_at st s).phase → b ≡ running_at st s
unfolding running_at
running_here st s b h e = rw h e

pub running_past : (st : State) (s : ℕ) → here st s ≡ false → false ≡ running_at st s
unfolding running_at
running_past st s n = rw n

-- one in use executes where it runs and the task that it serves has its number
pub executes_here
    : (st : State) (s : ℕ) (end : ℕ) (executor : ServerNo) (runs : Bool)
    → here st s ≡ true
    → end ≡ served st s
    → runs ≡ running (server_at st s).phase
    → executor ≡ record { 0 = executor_number (task_at st end).runs }
    → (runs && eqb executor.0 s) ≡ executes st s
unfolding executes executor_of
executes_here st s end executor runs h e r p =
    ap₂ (λ a k. a && eqb k s) (running_here st s runs h r) (ap (λ x. x.0) p ∙ ap (λ t. executor_number (task_at st t).runs) e)

-- a server past the count does not turn; one in use turns by its phase and the task that it serves
pub turns_here
    : (turn : Turn) (st : State) (t s end : ℕ) (b : Bool)
    → here st s ≡ true
    → end ≡ served st s
    → b ≡ (concerns turn (server_at st s).phase && eqb end t)
    → b ≡ turns turn st t s
unfolding turns wakes rests
turns_here Wakes st t s end b h e q = rw (h, ← e) q
turns_here Rests st t s end b h e q = rw (h, ← e) q

pub turns_past : (turn : Turn) (st : State) (t s : ℕ) → here st s ≡ false → false ≡ turns turn st t s
unfolding turns wakes rests
turns_past Wakes st t s n = rw n
turns_past Rests st t s n = rw n

pub turned_here
    : (turn : Turn) (st : State) (t s : ℕ) (b : Bool) (x : Server)
    → b ≡ turns turn st t s
    → x ≡ (if b then turned turn st.clock (server_at st s) else server_at st s)
    → x ≡ turned_server turn st t s
unfolding turns turned_server woken_server rested_server
turned_here Wakes st t s b x e h = rw (← e) h
turned_here Rests st t s b x e h = rw (← e) h
