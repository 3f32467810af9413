-- The state that an image holds, and which bytes are images: those of the one length in whose entries in use the variants are in range, with 0 where a
-- variant holds no number. Any other bytes are no state's (law `encoded_decoded`) and are refused. Entries past the counts are not read: whatever stands
-- there, the state has blank ones (rule 1.7). Assumes nothing.
use Rattle.std.specs.Prelude.{Bool, ◌&&◌, ◌||◌, List, ℕ, ◌+◌, ◌*◌, ltb, eqb, length, replicate, if◌then◌else◌, Some, None, Result, Ok, Err}
use Rattle.std.specs.Prelude as std
use Rattle.std.specs.Option.{option_map}
use Rattle.std.proofs.Math.Option.{Option, none, some}
use Rattle.laws.specs.Loops.{all_to, set_to}
use Rattle.lent_bytes.specs.Numbers.{byte_at, two_bytes, four_bytes}
use Rattle.model.specs.declared.TaskNo.{TaskNo}
use Rattle.model.specs.declared.Phase.{Phase}
use Rattle.model.specs.declared.Phase.TheVariants.{Idle, Active, Running, Recharging}
use Rattle.model.specs.declared.Mode.{Mode}
use Rattle.model.specs.declared.Mode.TheVariants.{Suspended, Ready, Waiting}
use Rattle.model.specs.declared.Server.{Server}
use Rattle.model.specs.declared.Task.{Task}
use Rattle.model.specs.declared.Resource.{Resource}
use Rattle.model.specs.declared.State.{State}
use Rattle.model.specs.State.{Runs, Owner, places}
use Rattle.model.specs.Fresh.{blank_server, blank_task, blank_resource}
use Rattle.image.specs.declared.Tagged.{Tagged}
use Rattle.image.specs.Layout.{server_size, task_size, resource_size, servers_offset, tasks_offset, resources_offset, image_size, used}
use Rattle.image.specs.Encoded.{no_task_no}

-- the variant of a number, the last one for any number past it
abbrev pub phase_of : ℕ → Phase
phase_of tag = if eqb tag 0 then Idle else if eqb tag 1 then Active else if eqb tag 2 then Running else Recharging

abbrev pub mode_of : Tagged → Mode
mode_of t = if eqb t.tag 0 then Suspended else if eqb t.tag 1 then Ready else Waiting t.number

-- a number or none
abbrev pub number_of : Tagged → std.Option ℕ
number_of t = if eqb t.tag 0 then None else Some t.number

abbrev pub runs_of : Tagged → Runs
runs_of t = option_map (λ n. record { 0 = n }) (number_of t)

abbrev pub owner_of : Tagged → Owner
owner_of t = option_map (λ n. record { 0 = n }) (number_of t)

-- the last variant, which holds a number, or an earlier one, which holds none
abbrev pub tag_fits : ℕ → Tagged → Bool
tag_fits last t = eqb t.tag last || (ltb t.tag last && eqb t.number 0)

abbrev pub tagged_in : List ℕ → ℕ → Tagged
tagged_in bytes at = record { tag = byte_at bytes at; number = two_bytes bytes (at + 1) }

unfoldable pub tagged_fits : ℕ → List ℕ → ℕ → Bool
tagged_fits last bytes at = tag_fits last (tagged_in bytes at)

unfoldable pub server_fits : List ℕ → ℕ → Bool
server_fits bytes at = ltb (byte_at bytes at) 4

unfoldable pub task_fits : List ℕ → ℕ → Bool
task_fits bytes at = tagged_fits 2 bytes at && tagged_fits 1 bytes (at + 3)

unfoldable pub resource_fits : List ℕ → ℕ → Bool
resource_fits bytes at = tagged_fits 1 bytes at

-- how many servers and tasks, and how many resources, the header says to be in use
abbrev pub tasks_used : List ℕ → ℕ
tasks_used bytes = used (two_bytes bytes 2)

abbrev pub resources_used : List ℕ → ℕ
resources_used bytes = used (two_bytes bytes 4)

-- server and task i
unfoldable pub task_entries_fit : List ℕ → ℕ → Bool
task_entries_fit bytes i = server_fits bytes (servers_offset + server_size * i) && task_fits bytes (tasks_offset + task_size * i)

unfoldable pub resource_entry_fits : List ℕ → ℕ → Bool
resource_entry_fits bytes r = resource_fits bytes (resources_offset + resource_size * r)

unfoldable pub is_image : List ℕ → Bool
is_image bytes =
    eqb (length bytes) image_size && (all_to (tasks_used bytes) (task_entries_fit bytes) && all_to (resources_used bytes) (resource_entry_fits bytes))

-- the first n entries of one size from an offset on; the others are blank
unfoldable pub entry_in : {A : Type 0} → (List ℕ → ℕ → A) → ℕ → List ℕ → ℕ → ℕ → A
entry_in get size bytes at i = get bytes (at + size * i)

unfoldable pub entries_in : {A : Type 0} → (List ℕ → ℕ → A) → ℕ → A → ℕ → List ℕ → ℕ → List A
entries_in get size blank n bytes at = set_to n (entry_in get size bytes at) (replicate places blank)

abbrev pub task_no_in : List ℕ → ℕ → TaskNo
task_no_in bytes at = record { 0 = two_bytes bytes at }

unfoldable pub server_in : List ℕ → ℕ → Server
server_in bytes at = record {
  phase = phase_of (byte_at bytes at);
  budget = four_bytes bytes (at + 1);
  deadline = four_bytes bytes (at + 5);
  quota = four_bytes bytes (at + 9);
  period = four_bytes bytes (at + 13);
  own = four_bytes bytes (at + 17);
  lent = four_bytes bytes (at + 21);
  spin = four_bytes bytes (at + 25);
}

unfoldable pub task_in : List ℕ → ℕ → Task
task_in bytes at = record {
  mode = mode_of (tagged_in bytes at);
  runs = runs_of (tagged_in bytes (at + 3));
  declared = two_bytes bytes (at + 6);
  depth = two_bytes bytes (at + 8);
  executed = four_bytes bytes (at + 10);
  held = entries_in two_bytes 2 0 places bytes (at + 14);
}

unfoldable pub resource_in : List ℕ → ℕ → Resource
resource_in bytes at = record {
  owner = owner_of (tagged_in bytes at);
  waiting = two_bytes bytes (at + 3);
  queue = entries_in task_no_in 2 no_task_no places bytes (at + 5);
}

unfoldable pub state_in : List ℕ → State
state_in bytes = record {
  processors = two_bytes bytes 0;
  tasks = two_bytes bytes 2;
  resources = two_bytes bytes 4;
  clock = four_bytes bytes 6;
  server = entries_in server_in server_size blank_server (tasks_used bytes) bytes servers_offset;
  task = entries_in task_in task_size blank_task (tasks_used bytes) bytes tasks_offset;
  resource = entries_in resource_in resource_size blank_resource (resources_used bytes) bytes resources_offset;
}

unfoldable pub decoded : List ℕ → Option State
decoded bytes = if is_image bytes then some (state_in bytes) else none

-- what reading gives back: refusal 1 where the bytes are no state's (rule 1.7)
abbrev pub imaged_by : Option State → Result State ℕ
imaged_by none = Err 1
imaged_by (some st) = Ok st
