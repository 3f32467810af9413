-- Further examples, computed like the marked ones, by theme: one list. They are what tells wrong variants of the definitions apart
-- (variants/*.variant). Assumes nothing.
use Rattle.std.specs.Prelude.{List, ◌++◌}
use Rattle.marked.specs.Example.{Example}
use Rattle.marked.specs.Runs.{runs}
use Rattle.marked.specs.Answers.{answered}
use Rattle.marked.specs.States.{states}
use Rattle.marked.specs.Starts.{beginnings}
use Rattle.marked.specs.Traces.{traces}
use Rattle.marked.specs.Orders.{orders}
use Rattle.marked.specs.Bounds.{calculations}

abbrev pub further : List Example
further = runs ++ answered ++ states ++ beginnings ++ traces ++ orders ++ calculations
