-- Soundness as the code tests it: sizes, then tasks, resources and servers, each group in one pass. Where the definition asks of each task and each
-- resource whether a stack or queue agrees, these ask of each entry, and compare totals; proofs/Same.antt says that it comes to the same.
-- Assumes nothing.
use Rattle.std.specs.Prelude.{None, Some, Bool, true, not, ◌&&◌, List, ℕ, ◌+◌, ltb, leb, eqb, get_or, if◌then◌else◌}
use Rattle.laws.specs.Tests.{◌iff◌}
use Rattle.laws.specs.Loops.{count_to, all_to, sum_to}
use Rattle.model.specs.declared.Phase.{Phase}
use Rattle.model.specs.declared.Phase.TheVariants.{Idle, Active, Running, Recharging}
use Rattle.model.specs.declared.Mode.{Mode}
use Rattle.model.specs.declared.Mode.TheVariants.{Suspended, Ready, Waiting}
use Rattle.model.specs.State.{Runs, Owner, places, server_at, task_at, resource_at, in_use, here, present, in_set, recharging, suspended, placed, owner_of, next, served}
use Rattle.model.specs.declared.Server.{Server}
use Rattle.model.specs.declared.Task.{Task}
use Rattle.model.specs.declared.Resource.{Resource}
use Rattle.model.specs.declared.State.{State}
use Rattle.model.specs.Sound.{each, each_resource, quota_fits, declared_fits, sizes_fit}
use Rattle.chain.specs.Arrays.{array_of, wanted_of, runs_for}
use Rattle.chain.specs.Computed.{numbers_of, at_or_nobody}

-- a stack or a queue, the first places of an array (rules 4.7 to 4.9): place k has another number than x,
unfoldable pub other_at : List ℕ → ℕ → ℕ → Bool
other_at xs x k = not (eqb (get_or xs k 0) x)

-- the number at place j is the holder's, is in the set, and stands at no earlier place
unfoldable pub member_at : List ℕ → ℕ → List ℕ → ℕ → ℕ → Bool
member_at xs set owners holder j =
    eqb (at_or_nobody owners (get_or xs j 0)) holder && in_set set (get_or xs j 0) && all_to j (other_at xs (get_or xs j 0))

unfoldable pub members_fit : List ℕ → ℕ → ℕ → List ℕ → ℕ → Bool
members_fit xs count set owners holder = leb count places && all_to count (member_at xs set owners holder)

-- how many entries of an array are numbers in use
unfoldable pub used_at : List ℕ → ℕ → Bool
used_at xs i = ltb (get_or xs i 0) places

unfoldable pub used_in : List ℕ → ℕ
used_in xs = count_to places (used_at xs)

-- a task: accounts, declared set, what it waits for, its stack
abbrev pub wait_passes : ℕ → ℕ → Mode → Bool
wait_passes resources declared Suspended = true
wait_passes resources declared Ready = true
wait_passes resources declared (Waiting r) = in_use resources r && in_set declared r

unfoldable pub task_passes : ℕ → ℕ → List ℕ → ℕ → Task → Bool
task_passes resources clock owners t k =
    leb k.executed clock
    && declared_fits resources k.declared
    && wait_passes resources k.declared k.mode
    && members_fit k.held k.depth k.declared owners t

unfoldable pub task_passes_at : State → ℕ → Bool
task_passes_at st t = task_passes st.resources st.clock (array_of (owner_of st)) t (task_at st t)

unfoldable pub depth_at : State → ℕ → ℕ
depth_at st t = if here st t then (task_at st t).depth else 0

-- as many entries in stacks as owned resources
unfoldable pub tasks_pass : State → Bool
tasks_pass st = each st (task_passes_at st) && eqb (sum_to places (depth_at st)) (used_in (array_of (owner_of st)))

-- a resource: its owner (nobody where the owner is not in use) and its queue
abbrev pub owner_passes : ℕ → ℕ → Owner → Bool
owner_passes inForce waiting None = eqb waiting 0
owner_passes inForce waiting (Some t) = ltb inForce places

-- every bit: a queue has no set
abbrev pub every_bit : ℕ
every_bit = 65535

unfoldable pub resource_passes : ℕ → List ℕ → ℕ → Resource → Bool
resource_passes inForce wants r x =
    owner_passes inForce x.waiting x.owner && members_fit (numbers_of x.queue) x.waiting every_bit wants r

unfoldable pub resource_passes_at : State → ℕ → Bool
resource_passes_at st r = resource_passes (owner_of st r) (wanted_of st) r (resource_at st r)

unfoldable pub length_at : State → ℕ → ℕ
length_at st r = if present st r then (resource_at st r).waiting else 0

-- as many entries in queues as waiting tasks
unfoldable pub resources_pass : State → Bool
resources_pass st = each_resource st (resource_passes_at st) && eqb (sum_to places (length_at st)) (used_in (wanted_of st))

-- a server: its own numbers,
abbrev pub server_fits : ℕ → Server → Bool
server_fits clock s =
    quota_fits s.quota s.period
    && leb s.deadline (clock + s.period)
    && leb s.budget s.quota
    && (eqb s.budget 0 iff recharging s.phase)
    && leb (s.own + s.lent + s.spin) clock

-- its phase against the mode and place of the task that it serves,
abbrev pub serves_passes : Phase → Mode → Runs → Bool
serves_passes Idle mode runs = suspended mode
serves_passes Active mode runs = not (suspended mode)
serves_passes Running mode runs = placed runs && not (suspended mode)
serves_passes Recharging mode runs = true

-- and whether a link leads on from that task, `last`
unfoldable pub server_passes : ℕ → Server → ℕ → Task → Bool
server_passes clock s link last = server_fits clock s && leb places link && serves_passes s.phase last.mode last.runs

-- its own task executes only where it is served
abbrev pub executes_passes : List ℕ → ℕ → Runs → Bool
executes_passes runsBy t None = true
executes_passes runsBy t (Some s) = eqb (at_or_nobody runsBy s.0) t

unfoldable pub server_passes_at : State → ℕ → Bool
server_passes_at st i =
    server_passes st.clock (server_at st i) (next st (served st i)) (task_at st (served st i))
    && executes_passes (array_of (runs_for st)) i (task_at st i).runs

unfoldable pub servers_pass : State → Bool
servers_pass st = leb (used_in (array_of (runs_for st))) st.processors && each st (server_passes_at st)

unfoldable pub passes : State → Bool
passes st = sizes_fit st && tasks_pass st && resources_pass st && servers_pass st
