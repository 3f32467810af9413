-- The layer's types and their variants under one name: a file here takes what it needs of them in one line. Assumes nothing.
pub use Rattle.std.specs.Prelude.{None, Some}
pub use Rattle.model.specs.declared.TaskNo.{TaskNo}
pub use Rattle.model.specs.declared.ServerNo.{ServerNo}
pub use Rattle.model.specs.declared.Phase.{Phase}
pub use Rattle.model.specs.declared.Phase.TheVariants.{Idle, Active, Running, Recharging}
pub use Rattle.model.specs.declared.Mode.{Mode}
pub use Rattle.model.specs.declared.Mode.TheVariants.{Suspended, Ready, Waiting}
pub use Rattle.model.specs.State.{Runs, Owner}
pub use Rattle.model.specs.declared.Server.{Server}
pub use Rattle.model.specs.declared.Task.{Task}
pub use Rattle.model.specs.declared.Resource.{Resource}
pub use Rattle.model.specs.declared.State.{State}
pub use Rattle.model.specs.declared.Event.{Event}
pub use Rattle.model.specs.declared.Event.TheVariants.{Wake, Suspend, Dispatch, Preempt, Elapse, Recharge, Lock, Unlock}
pub use Rattle.model.specs.declared.Answer.{Answer}
pub use Rattle.model.specs.declared.Answer.TheVariants.{Ok, RefusedWaiting}
pub use Rattle.model.specs.declared.Outcome.{Outcome}
pub use Rattle.model.specs.declared.Table.{Table}
