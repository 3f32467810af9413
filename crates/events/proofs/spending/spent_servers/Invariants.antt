-- What the loop keeps. Assumes nothing.
use Rattle.model.specs.Events.{runs_out, spent_server}
use Rattle.events.proofs.Turns.{Counting}
use Rattle.events.proofs.spending.spent_servers.Given as goal

abbrev pub invariant-loop-s : goal.invariant-loop-s
invariant-loop-s l = Counting l.st (runs_out l.st l.n) (spent_server l.st l.n) l.s l.count l.servers
