-- Rule 1.7's sixteen places. antt sees an array as a list of any length. `Shaped` says that each has its sixteen places: of any value of the code this holds by its type,
-- and it is no part of the test of soundness. Assumes nothing.
use Rattle.std.specs.Prelude.{◌≡◌, ◌<◌, length}
use Rattle.model.specs.declared.State.{State}
use Rattle.model.specs.State.{TaskNumber, ResourceNumber, places, task_at, resource_at}

pub record Shaped (st : State) : Type 0 where
  pub servers : length st.server ≡ places
  pub tasks : length st.task ≡ places
  pub resources : length st.resource ≡ places
  pub stacks : (t : TaskNumber) → t < places → length (task_at st t).held ≡ places
  pub queues : (r : ResourceNumber) → r < places → length (resource_at st r).queue ≡ places
