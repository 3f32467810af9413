-- Which bytes of an image are in use, and when two images are alike there: what the laws on entries past the counts speak of (rule 1.7). Assumes nothing.
use Rattle.std.specs.Prelude.{◌≡◌, Bool, true, false, ◌&&◌, ◌||◌, List, ℕ, ◌+◌, ◌*◌, ltb, leb, length, replicate}
use Rattle.laws.specs.Loops.{set_to}
use Rattle.lent_bytes.specs.Numbers.{byte_at}
use Rattle.model.specs.declared.State.{State}
use Rattle.model.specs.State.{places, server_at, task_at, resource_at}
use Rattle.model.specs.Fresh.{blank_server, blank_task, blank_resource}
use Rattle.image.specs.Layout.{header_size, server_size, task_size, resource_size, servers_offset, tasks_offset, resources_offset, used}
use Rattle.image.specs.Decoded.{tasks_used, resources_used}

-- byte i lies in one of the first n entries of one size from an offset on
abbrev pub is_within : ℕ → ℕ → ℕ → ℕ → Bool
is_within offset size n i = leb offset i && ltb i (offset + size * n)

-- byte i is the header's or an entry's in use
unfoldable pub in_use_at : List ℕ → ℕ → Bool
in_use_at bytes i =
    ltb i header_size
    || (is_within servers_offset server_size (tasks_used bytes) i
    || (is_within tasks_offset task_size (tasks_used bytes) i
    || is_within resources_offset resource_size (resources_used bytes) i))

-- as many bytes, and the same ones in use
pub record AlikeInUse (a b : List ℕ) : Type 0 where
  pub long : length a ≡ length b
  pub same : (i : ℕ) → in_use_at a i ≡ true → byte_at a i ≡ byte_at b i

-- the bytes past the counts are as they came
abbrev pub SamePast : List ℕ → List ℕ → Type 0
SamePast before after = (i : ℕ) → in_use_at before i ≡ false → byte_at after i ≡ byte_at before i

-- a state with blank entries past its counts
unfoldable pub blank_past : State → State
blank_past st = record {
  processors = st.processors;
  tasks = st.tasks;
  resources = st.resources;
  clock = st.clock;
  server = set_to (used st.tasks) (server_at st) (replicate places blank_server);
  task = set_to (used st.tasks) (task_at st) (replicate places blank_task);
  resource = set_to (used st.resources) (resource_at st) (replicate places blank_resource);
}
