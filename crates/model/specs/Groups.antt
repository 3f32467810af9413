-- Groups of tasks, between which order does not matter: rules 11.1 and 11.2. Assumes nothing.
use Rattle.std.specs.Prelude.{◌≡◌, Bool, true, false, not, ◌&&◌, ◌||◌, List, ℕ, zero, suc, get_or, set, replicate, if◌then◌else◌}
use Rattle.laws.specs.Loops.{all_to, set_to, best_to}
use Rattle.reordering.specs.Order.{Kind, time, group}
use Rattle.model.specs.declared.State.{State}
use Rattle.model.specs.declared.Event.{Event}
use Rattle.model.specs.declared.Event.TheVariants.{Wake, Suspend, Dispatch, Preempt, Elapse, Recharge, Lock, Unlock}
use Rattle.model.specs.State.{TaskNumber, ResourceNumber, places, nobody, here, present, declares}

unfoldable pub not_in_both : State → TaskNumber → TaskNumber → ResourceNumber → Bool
not_in_both st t u r = not (present st r && declares st t r && declares st u r)

-- rule 11.1: t and u share, both declare some resource
unfoldable pub shares : State → TaskNumber → TaskNumber → Bool
shares st t u = here st t && here st u && not (all_to places (not_in_both st t u))

-- rule 11.1: sharing joins t and u, directly or through others
pub data Linked (st : State) : TaskNumber → TaskNumber → Type 0 where
  itself : {t : TaskNumber} → Linked st t t
  through : {t u v : TaskNumber} → shares st t u ≡ true → Linked st u v → Linked st t v

-- The group's number is the lowest of its tasks. Found by spreading a set of tasks from t over what shares with it, as often as there are tasks.
unfoldable pub not_from : State → List Bool → TaskNumber → TaskNumber → Bool
not_from st found u v = not (get_or found v false && shares st v u)

unfoldable pub found_next : State → List Bool → TaskNumber → Bool
found_next st found u = get_or found u false || not (all_to places (not_from st found u))

unfoldable pub spread : ℕ → State → TaskNumber → List Bool
spread zero st t = set (replicate places false) t true
spread (suc rounds) st t = set_to places (found_next st (spread rounds st t)) (spread rounds st t)

unfoldable pub in_group : State → TaskNumber → TaskNumber → Bool
in_group st t u = get_or (spread places st t) u false

unfoldable pub any_key : TaskNumber → ℕ
any_key u = 0

-- rule 11.1: the group's number; a number that is no task's is a group by itself
unfoldable pub group_of : State → TaskNumber → ℕ
group_of st t = if here st t then best_to nobody places (in_group st t) any_key else t

-- rule 11.2: what an event is to the order, a passage of time or something that one group does; a server's event is its own task's group's
abbrev pub kind_of : State → Event → Kind
kind_of st (Wake t) = group (group_of st t.0)
kind_of st (Suspend t) = group (group_of st t.0)
kind_of st (Dispatch s) = group (group_of st s.0)
kind_of st (Preempt s) = group (group_of st s.0)
kind_of st (Elapse n) = time
kind_of st (Recharge s) = group (group_of st s.0)
kind_of st (Lock t r) = group (group_of st t.0)
kind_of st (Unlock t r) = group (group_of st t.0)
