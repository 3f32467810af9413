-- Where the parts of a state stand in its image: fixed offsets and sizes, in bytes, as docs/STATE.md has them in a table; and how many entries of a part
-- are in use. Assumes nothing.
use Rattle.std.specs.Prelude.{ℕ, ◌+◌, ◌*◌, min}
use Rattle.model.specs.State.{places}

-- processors, tasks, resources, clock
abbrev pub header_size : ℕ
header_size = 10

-- the phase, then seven numbers of four bytes
abbrev pub server_size : ℕ
server_size = 29

-- two enums with a number, two numbers of two bytes, one of four, then sixteen of two
abbrev pub task_size : ℕ
task_size = 46

-- an enum with a number, a number of two bytes, then sixteen of two
abbrev pub resource_size : ℕ
resource_size = 37

abbrev pub servers_offset : ℕ
servers_offset = header_size

abbrev pub tasks_offset : ℕ
tasks_offset = servers_offset + server_size * places

abbrev pub resources_offset : ℕ
resources_offset = tasks_offset + task_size * places

abbrev pub image_size : ℕ
image_size = resources_offset + resource_size * places

-- how many entries are in use: as many as the count says, and no more than there are places (rule 1.7)
abbrev pub used : ℕ → ℕ
used count = min count places
