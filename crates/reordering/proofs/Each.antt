-- A law of `Each`: of what holds of every entry of a log. Assumes nothing.
use mathlib.Core.List.{List, [], ◌∷◌}
use Rattle.reordering.specs.Run.{Each}

-- what follows, entry by entry, from two things that hold of every entry
pub each_so
    : {Event Answer : Type 0} {F G H : Event → Answer → Type 0} (l : List (Event × Answer))
    → ((e : Event) (a : Answer) → F e a → G e a → H e a)
    → Each F l
    → Each G l
    → Each H l
unfolding Each
each_so [] f h k = tt
each_so (p ∷ l) f h k = (f p.0 p.1 h.0 k.0, each_so l f h.1 k.1)
