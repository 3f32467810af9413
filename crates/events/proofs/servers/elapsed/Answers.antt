-- `events::servers::elapsed` meets its contract. Assumes nothing.
use native.Mathlib.Omega.{arith}
use Rattle.model.specs.declared.Event.TheVariants.{Elapse}
use Rattle.events.proofs.Clear.{clear_grounds, elapse_affords}
use Rattle.events.proofs.Changes.{elapsed_does}
use Rattle.events.proofs.servers.elapsed.Goals as goal

pub overflow_add-clock : goal.overflow_add-clock
overflow_add-clock c =
    omega (arith, (clear_grounds _ (Elapse _) c.requires).1)

pub spent_servers-spent-requires : goal.spent_servers-spent-requires
spent_servers-spent-requires c =
    record {
      ends_value = c.chain_ends-ends.ensures;
      st_value = c.requires.is_sound;
      n_bound = (clear_grounds _ (Elapse _) c.requires).1;
      n_value = elapse_affords _ _ c.requires;
    }

pub ticked_tasks-tasks-requires : goal.ticked_tasks-tasks-requires
ticked_tasks-tasks-requires c =
    record { st_value = c.requires.is_sound; n_bound = (clear_grounds _ (Elapse _) c.requires).1 }

pub returns : goal.returns
returns c =
    elapsed_does _ _ _ _ _ c.chain_ends-ends.ensures c.spent_servers-spent.ensures c.ticked_tasks-tasks.ensures
