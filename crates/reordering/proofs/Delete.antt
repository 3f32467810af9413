-- Deleting what the other groups do leaves a group what it is told of its answers, and its part of the state. Assumes nothing.
use mathlib.Core.Path.{◌≡◌, refl, ap₂}
use mathlib.Core.List.{List, [], ◌∷◌}
use Prim.Native.Nat.{ℕ}
use Rattle.laws.proofs.Cases.{split}
use Rattle.reordering.specs.Order.{Kind, sees, view}
use Rattle.reordering.specs.Run.{after, log, entry, Each, told_log}
use Rattle.reordering.specs.Machine.{Deletes}

module _
    {State Event Answer Told : Type 0}
    {kind : Event → Kind}
    {step : State → Event → Answer × State}
    {told : Event → Answer → Told}
    {Fine : Event → Answer → Type 0}
    {g : ℕ}
    {Sim : State → State → Type 0}
    (laws : Deletes kind step told Fine g Sim)
  where
    -- the deletion theorem
    pub delete
        : (s t : State)
        → Sim s t
        → (xs : List Event)
        → Each Fine (view (entry kind) g (log step s xs))
        → (told_log told (view (entry kind) g (log step s xs)) ≡ told_log told (log step t (view kind g xs))) ×
        Sim (after step s xs) (after step t (view kind g xs))
    unfolding view log after Each
    delete s t m [] f = (refl, m)
    delete s t m (e ∷ es) f =
        split
        (sees g (kind e))
        (λ y.
        let fs : Fine e (step s e).0 × Each Fine (view (entry kind) g (log step (step s e).1 es)) = rw y at f in
        let a : told e (step s e).0 ≡ told e (step t e).0 = laws.answer s t e y m fs.0 in
        let i
        : (told_log told (view (entry kind) g (log step (step s e).1 es)) ≡ told_log told (log step (step t e).1 (view kind g es))) ×
        Sim (after step (step s e).1 es) (after step (step t e).1 (view kind g es)) =
        delete (step s e).1 (step t e).1 (laws.both s t e y m fs.0) es fs.1 in
        (rw y (ap₂ (λ r l. (e, r) ∷ l) a i.0), rw y i.1))
        (λ n. rw n (delete (step s e).1 t (laws.alone s t e n m) es (rw n at f)))
