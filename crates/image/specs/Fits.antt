-- What the types of the code say of a state: each number fits its width, and each array has its sixteen places. antt sees neither in a list of
-- numbers; of any value of the code both hold. Assumes nothing.
use Rattle.std.specs.Prelude.{◌≡◌, List, ℕ, ◌<◌, length, get_or}
use Rattle.lent_bytes.specs.Numbers.{Fits16, Fits32}
use Rattle.model.specs.declared.TaskNo.{TaskNo}
use Rattle.model.specs.declared.Server.{Server}
use Rattle.model.specs.declared.Task.{Task}
use Rattle.model.specs.declared.Resource.{Resource}
use Rattle.model.specs.declared.State.{State}
use Rattle.model.specs.State.{places, no_server, no_task, no_resource}
use Rattle.image.specs.Encoded.{mode_tagged, runs_tagged, owner_tagged, no_task_no}

abbrev pub FitsTaskNo : TaskNo → Type 0
FitsTaskNo t = Fits16 t.0

-- sixteen places, each of which fits
pub record FitsEach {A : Type 0} (Fit : A → Type 0) (none : A) (xs : List A) : Type 0 where
  pub long : length xs ≡ places
  pub each : (i : ℕ) → i < places → Fit (get_or xs i none)

pub record FitsServer (s : Server) : Type 0 where
  pub budget : Fits32 s.budget
  pub deadline : Fits32 s.deadline
  pub quota : Fits32 s.quota
  pub period : Fits32 s.period
  pub own : Fits32 s.own
  pub lent : Fits32 s.lent
  pub spin : Fits32 s.spin

pub record FitsTask (t : Task) : Type 0 where
  pub mode : Fits16 (mode_tagged t.mode).number
  pub runs : Fits16 (runs_tagged t.runs).number
  pub declared : Fits16 t.declared
  pub depth : Fits16 t.depth
  pub executed : Fits32 t.executed
  pub held : FitsEach Fits16 0 t.held

pub record FitsResource (r : Resource) : Type 0 where
  pub owner : Fits16 (owner_tagged r.owner).number
  pub waiting : Fits16 r.waiting
  pub queue : FitsEach FitsTaskNo no_task_no r.queue

pub record Fits (st : State) : Type 0 where
  pub processors : Fits16 st.processors
  pub tasks : Fits16 st.tasks
  pub resources : Fits16 st.resources
  pub clock : Fits32 st.clock
  pub server : FitsEach FitsServer no_server st.server
  pub task : FitsEach FitsTask no_task st.task
  pub resource : FitsEach FitsResource no_resource st.resource
