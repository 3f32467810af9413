-- Sets of task numbers and of resource numbers, each a list with a test for every number. Assumes nothing.
use Rattle.std.specs.Prelude.{ℕ, Bool, true, false, not, ◌&&◌, ◌||◌, List, get_or, set, replicate}
use Rattle.laws.specs.Loops.{all_to, set_to}

-- how many tasks and resources there may be
abbrev pub task_numbers : ℕ
task_numbers = 6

abbrev pub resource_numbers : ℕ
resource_numbers = 16

-- a set of tasks, a test for each number
abbrev pub Tasks : Type 0
Tasks = List Bool

-- a set of resources, likewise
abbrev pub Resources : Type 0
Resources = List Bool

abbrev pub no_task : Tasks
no_task = replicate task_numbers false

abbrev pub no_resource : Resources
no_resource = replicate resource_numbers false

abbrev pub has : List Bool → ℕ → Bool
has xs n = get_or xs n false

abbrev pub with : List Bool → ℕ → List Bool
with xs n = set xs n true

abbrev pub without : List Bool → ℕ → List Bool
without xs n = set xs n false

unfoldable pub in_either : Resources → Resources → ℕ → Bool
in_either xs ys r = has xs r || has ys r

unfoldable pub joined : Resources → Resources → Resources
joined xs ys = set_to resource_numbers (in_either xs ys) xs

unfoldable pub not_in_both : Resources → Resources → ℕ → Bool
not_in_both xs ys r = not (has xs r && has ys r)

unfoldable pub meets : Resources → Resources → Bool
meets xs ys = not (all_to resource_numbers (not_in_both xs ys))
