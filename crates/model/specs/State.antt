-- The state's entries, which numbers are in use, the chain of waiting, what a server serves and who executes.
-- Rules 1.2, 1.3, 1.6, 1.7, 2.1 to 2.5 and 3.1 to 3.4. Assumes nothing.
use Rattle.std.specs.Prelude.{Bool, true, false, ◌&&◌, [], ℕ, zero, suc, ◌/◌, ◌%◌, ◌^◌, ltb, eqb, get_or, if◌then◌else◌, Option, Some, None, is_some}
use Rattle.model.specs.declared.Phase.{Phase}
use Rattle.model.specs.declared.Phase.TheVariants.{Idle, Active, Running, Recharging}
use Rattle.model.specs.declared.Mode.{Mode}
use Rattle.model.specs.declared.Mode.TheVariants.{Suspended, Ready, Waiting}
use Rattle.model.specs.declared.TaskNo.{TaskNo}
use Rattle.model.specs.declared.ServerNo.{ServerNo}
use Rattle.model.specs.declared.Server.{Server}
use Rattle.model.specs.declared.Task.{Task}
use Rattle.model.specs.declared.Resource.{Resource}
use Rattle.model.specs.declared.State.{State}

-- Rule 1.2: tasks, servers and resources are numbered each on their own, and a signature says whose number it takes. Where it says ℕ, the number is
-- that of a task and of its server both, or none of the three.
abbrev pub TaskNumber : Type 0
TaskNumber = ℕ

abbrev pub ServerNumber : Type 0
ServerNumber = ℕ

abbrev pub ResourceNumber : Type 0
ResourceNumber = ℕ

-- rules 1.2, 1.3, 1.7: there is room for sixteen of each
abbrev pub places : ℕ
places = 16

-- a number that is no task's, no server's and no resource's
abbrev pub nobody : ℕ
nobody = 16

-- rule 2.4: a resource has an owner or none
abbrev pub Owner : Type 0
Owner = Option TaskNo

-- rule 2.5: the server in which a task executes, if there is one
abbrev pub Runs : Type 0
Runs = Option ServerNo

-- rules 2.1 to 2.5, the entries of a state; and what an array is read as past its end
abbrev pub no_server : Server
no_server = record { phase = Idle; budget = 0; deadline = 0; quota = 0; period = 0; own = 0; lent = 0; spin = 0 }

abbrev pub no_task : Task
no_task = record { mode = Suspended; runs = None; declared = 0; depth = 0; executed = 0; held = [] }

abbrev pub no_resource : Resource
no_resource = record { owner = None; waiting = 0; queue = [] }

abbrev pub server_at : State → ServerNumber → Server
server_at st s = get_or st.server s no_server

abbrev pub task_at : State → TaskNumber → Task
task_at st t = get_or st.task t no_task

abbrev pub resource_at : State → ResourceNumber → Resource
resource_at st r = get_or st.resource r no_resource

-- rule 1.7: i has a place, and is below the count
abbrev pub in_use : ℕ → ℕ → Bool
in_use count i = ltb i places && ltb i count

-- i is a task's and a server's number in use
unfoldable pub here : State → ℕ → Bool
here st i = in_use st.tasks i

-- r is a resource's number in use
unfoldable pub present : State → ResourceNumber → Bool
present st r = in_use st.resources r

-- rule 1.6: a declared set has resource r where bit r of its number is 1
abbrev pub in_set : ℕ → ResourceNumber → Bool
in_set declared r = ltb r places && eqb (declared / 2 ^ r % 2) 1

unfoldable pub declares : State → TaskNumber → ResourceNumber → Bool
declares st t r = in_set (task_at st t).declared r

-- rule 2.1: the four phases, a test for each
abbrev pub idle : Phase → Bool
idle Idle = true
idle Active = false
idle Running = false
idle Recharging = false

abbrev pub active : Phase → Bool
active Idle = false
active Active = true
active Running = false
active Recharging = false

abbrev pub running : Phase → Bool
running Idle = false
running Active = false
running Running = true
running Recharging = false

abbrev pub recharging : Phase → Bool
recharging Idle = false
recharging Active = false
recharging Running = false
recharging Recharging = true

-- rule 2.2: the three modes, and what is awaited, nobody's number where nothing is
abbrev pub suspended : Mode → Bool
suspended Suspended = true
suspended Ready = false
suspended (Waiting r) = false

abbrev pub waiting : Mode → Bool
waiting Suspended = false
waiting Ready = false
waiting (Waiting r) = true

abbrev pub awaited : Mode → ResourceNumber
awaited Suspended = nobody
awaited Ready = nobody
awaited (Waiting r) = r

-- rule 2.4: whether there is an owner, and its number, nobody's where there is none
abbrev pub owned : Owner → Bool
owned o = is_some o

abbrev pub owner_no : Owner → TaskNumber
owner_no None = nobody
owner_no (Some t) = t.0

-- rule 2.5: whether a task executes, and the number of the server, nobody's where there is none
abbrev pub placed : Runs → Bool
placed x = is_some x

abbrev pub executor_number : Runs → ServerNumber
executor_number None = nobody
executor_number (Some s) = s.0

-- rule 3.1: the owner of resource r if both are in use, else nobody
unfoldable pub owner_of : State → ResourceNumber → TaskNumber
owner_of st r = if present st r && here st (owner_no (resource_at st r).owner) then owner_no (resource_at st r).owner else nobody

-- rule 3.1: the link of task t, to the owner of what it waits for
unfoldable pub next : State → TaskNumber → TaskNumber
next st t = if here st t then owner_of st (awaited (task_at st t).mode) else nobody

-- rule 3.2: where the links lead from task t, in so many links at most
unfoldable pub chain_end : ℕ → State → TaskNumber → TaskNumber
chain_end zero st t = t
chain_end (suc left) st t = if ltb (next st t) places then chain_end left st (next st t) else t

-- rule 3.3: a server serves the chain end of the task of its own number. Asked of a task's number it is that task's chain end.
unfoldable pub served : State → ServerNumber → TaskNumber
served st s = chain_end places st s

-- s is in use and Running
unfoldable pub running_at : State → ServerNumber → Bool
running_at st s = here st s && running (server_at st s).phase

-- s is a Running server that serves t
unfoldable pub running_for : State → TaskNumber → ServerNumber → Bool
running_for st t s = running_at st s && eqb (served st s) t

-- rule 2.5: the server in which t executes, or nobody
unfoldable pub executor_of : State → TaskNumber → ServerNumber
executor_of st t = executor_number (task_at st t).runs

-- t executes
unfoldable pub executing : State → TaskNumber → Bool
executing st t = here st t && placed (task_at st t).runs

-- rule 3.4: s is Running and executes the task that it serves; a Running server that does not, spins
unfoldable pub executes : State → ServerNumber → Bool
executes st s = running_at st s && eqb (executor_of st (served st s)) s
