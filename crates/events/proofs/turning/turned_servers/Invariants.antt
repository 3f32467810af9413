-- What the loop keeps. Assumes nothing.
use Rattle.events.specs.Computed.{turns, turned_server}
use Rattle.events.proofs.Turns.{Counting}
use Rattle.events.proofs.turning.turned_servers.Given as goal

abbrev pub invariant-loop-s : goal.invariant-loop-s
invariant-loop-s l = Counting l.st (turns l.turn l.st l.task.0) (turned_server l.turn l.st l.task.0) l.s l.count l.servers
