-- Laws of lines written one after the other in a loop over the places, each only where its number is in use. Assumes nothing.
use mathlib.Core.Path.{◌≡◌}
use mathlib.Core.Bool.{true, false}
use mathlib.Core.List.{List, []}
use Prim.Native.Nat.{ℕ, ◌+◌, ◌*◌}
use native.Mathlib.Omega.{arith}
use Rattle.laws.specs.Loops.{join_to}
use Rattle.laws.proofs.Join.{join_none, join_more}
use Rattle.model.specs.declared.State.{State}
use Rattle.model.specs.State.{here, server_at, task_at}
use Rattle.listing.specs.Listing.{server_text, server_line, task_text, task_line}
use Rattle.listing.specs.declared.writer.Writer.{Writer}
use Rattle.listing.specs.Writer.{Writes}
use Rattle.listing.proofs.Writing.{writes_none, writes_then, writes_most}

module _ (m : ℕ) (f : ℕ → List ℕ) where
  pub lines_none : (w : Writer) → Writes (m * 0) w (join_to 0 f) w
  lines_none w = rw (← join_none f) (writes_most (omega arith) (writes_none w))

  pub lines_more
      : {w v u : Writer} (i : ℕ) (text : List ℕ)
      → Writes (m * i) w (join_to i f) v → text ≡ f i → Writes m v text u → Writes (m * (i + 1)) w (join_to (i + 1) f) u
  lines_more i text h e g = rw (← join_more f i (join_to i f) text e (λ j. join_to i f)) (writes_most (omega arith) (writes_then h g))

  pub lines_skip : {w v : Writer} (i : ℕ) → Writes (m * i) w (join_to i f) v → [] ≡ f i → Writes (m * (i + 1)) w (join_to (i + 1) f) v
  lines_skip {v = v} i h q = lines_more i [] h q (writes_most (omega arith) (writes_none v))

module _ (st : State) (i : ℕ) where
  pub server_line_lem : here st i ≡ true → server_text i (server_at st i) ≡ server_line st i
  unfolding server_line
  server_line_lem h = rw h

  pub no_server_lem : here st i ≡ false → [] ≡ server_line st i
  unfolding server_line
  no_server_lem h = rw h

  pub task_line_lem : here st i ≡ true → task_text i (task_at st i).executed ≡ task_line st i
  unfolding task_line
  task_line_lem h = rw h

  pub no_task_lem : here st i ≡ false → [] ≡ task_line st i
  unfolding task_line
  no_task_lem h = rw h
