-- A state in lent bytes, field by field: what writing leaves there. Numbers are little-endian; an enum is the number of its variant, and then the number
-- that the variant holds, which is 0 where it holds none. Entries past the counts are not written (rule 1.7). Assumes nothing.
use Rattle.std.specs.Prelude.{List, ◌++◌, ℕ, eqb, length, get_or, if◌then◌else◌, Option, Some, None}
use Rattle.std.specs.Option.{option_map}
use Rattle.laws.specs.Loops.{join_to}
use Rattle.lent_bytes.specs.Numbers.{one, two, four}
use Rattle.lent_bytes.specs.Writing.{stored}
use Rattle.model.specs.declared.TaskNo.{TaskNo}
use Rattle.model.specs.declared.Phase.{Phase}
use Rattle.model.specs.declared.Phase.TheVariants.{Idle, Active, Running, Recharging}
use Rattle.model.specs.declared.Mode.{Mode}
use Rattle.model.specs.declared.Mode.TheVariants.{Suspended, Ready, Waiting}
use Rattle.model.specs.declared.Server.{Server}
use Rattle.model.specs.declared.Task.{Task}
use Rattle.model.specs.declared.Resource.{Resource}
use Rattle.model.specs.declared.State.{State}
use Rattle.model.specs.State.{Runs, Owner, places, no_server, no_task, no_resource}
use Rattle.image.specs.declared.Tagged.{Tagged}
use Rattle.image.specs.Layout.{servers_offset, tasks_offset, resources_offset, image_size, used}

abbrev pub phase_tag : Phase → ℕ
phase_tag Idle = 0
phase_tag Active = 1
phase_tag Running = 2
phase_tag Recharging = 3

abbrev pub mode_tagged : Mode → Tagged
mode_tagged Suspended = record { tag = 0; number = 0 }
mode_tagged Ready = record { tag = 1; number = 0 }
mode_tagged (Waiting r) = record { tag = 2; number = r }

-- a number or none
abbrev pub number_tagged : Option ℕ → Tagged
number_tagged None = record { tag = 0; number = 0 }
number_tagged (Some n) = record { tag = 1; number = n }

abbrev pub runs_tagged : Runs → Tagged
runs_tagged runs = number_tagged (option_map (λ s. s.0) runs)

abbrev pub owner_tagged : Owner → Tagged
owner_tagged owner = number_tagged (option_map (λ t. t.0) owner)

unfoldable pub tagged_bytes : Tagged → List ℕ
tagged_bytes t = one t.tag ++ two t.number

-- the first n entries one after the other
unfoldable pub entry_bytes : {A : Type 0} → (A → List ℕ) → A → List A → ℕ → List ℕ
entry_bytes bytes none xs i = bytes (get_or xs i none)

unfoldable pub entries : {A : Type 0} → (A → List ℕ) → A → ℕ → List A → List ℕ
entries bytes none n xs = join_to n (entry_bytes bytes none xs)

abbrev pub no_task_no : TaskNo
no_task_no = record { 0 = 0 }

unfoldable pub task_no_bytes : TaskNo → List ℕ
task_no_bytes t = two t.0

unfoldable pub server_bytes : Server → List ℕ
server_bytes s =
    one (phase_tag s.phase)
    ++ four s.budget
    ++ four s.deadline
    ++ four s.quota
    ++ four s.period
    ++ four s.own
    ++ four s.lent
    ++ four s.spin

unfoldable pub task_bytes : Task → List ℕ
task_bytes t =
    tagged_bytes (mode_tagged t.mode)
    ++ tagged_bytes (runs_tagged t.runs)
    ++ two t.declared
    ++ two t.depth
    ++ four t.executed
    ++ entries two 0 places t.held

unfoldable pub resource_bytes : Resource → List ℕ
resource_bytes r =
    tagged_bytes (owner_tagged r.owner)
    ++ two r.waiting
    ++ entries task_no_bytes no_task_no places r.queue

unfoldable pub header_bytes : State → List ℕ
header_bytes st = two st.processors ++ two st.tasks ++ two st.resources ++ four st.clock

abbrev pub servers_bytes : State → List ℕ
servers_bytes st = entries server_bytes no_server (used st.tasks) st.server

abbrev pub tasks_bytes : State → List ℕ
tasks_bytes st = entries task_bytes no_task (used st.tasks) st.task

abbrev pub resources_bytes : State → List ℕ
resources_bytes st = entries resource_bytes no_resource (used st.resources) st.resource

-- the header and the entries in use, each part at its offset, and every other byte as it came
unfoldable pub encoded : State → List ℕ → List ℕ
encoded st bytes =
    stored
    (stored (stored (stored bytes 0 (header_bytes st)) servers_offset (servers_bytes st)) tasks_offset (tasks_bytes st))
    resources_offset (resources_bytes st)

-- what writing leaves of the bytes: nothing is written where they are not as many as a state takes
abbrev pub written : State → List ℕ → List ℕ
written st bytes = if eqb (length bytes) image_size then encoded st bytes else bytes
