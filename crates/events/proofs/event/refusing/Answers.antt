-- `events::event::refusing` meets its contract. The task of an event that 62 refuses is in use, so that its entry is there. Assumes nothing.
use mathlib.Core.Path.{ap, ◌∙◌}
use mathlib.Core.Option.{some}
use native.Mathlib.Omega.{arith}
use Rattle.model.proofs.Chain.{here_below}
use Rattle.model.proofs.Stalled.{admitted, admitted_here}
use Rattle.events.proofs.event.refusing.Goals as goal

pub bounds-st-number_of : goal.bounds-st-number_of
bounds-st-number_of c =
    rw c.number_of.ensures (here_below c.args.st _ (admitted_here c.args.st c.args.e (admitted 62 (omega arith) c.args.st c.args.e (c.requires ∙ ap some c.if-n-ne62.false))))
