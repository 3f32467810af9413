-- The loop keeps `SoFar`, and what is left of the file falls. Assumes nothing.
use Prim.Native.Nat.{◌-◌}
use lib.ListN.{length}
use Rattle.listing.proofs.SoFar.{SoFar}
use Rattle.listing.proofs.happenings.put_events.Given as goal

abbrev pub invariant-loop-read : goal.invariant-loop-read
invariant-loop-read l = SoFar l.file l.initial.text l.initial.place.at l.initial.state l.text l.place.at l.state l.events

abbrev pub decreases-loop-read : goal.decreases-loop-read
decreases-loop-read l = length l.file - l.place.at
