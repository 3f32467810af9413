-- What the files here take of the kit, under one name. Assumes nothing.
pub use mathlib.Core.Path.{◌≡◌, refl, sym, ap, ap₂, subst, ◌∙◌}
pub use mathlib.Core.Bool.{Bool, true, false, not, ◌&&◌, ◌||◌, true≢false}
pub use mathlib.Core.List.{List, [], ◌∷◌}
pub use mathlib.Core.Logic.{◌⊎◌, inl, inr, ⊎_elim}
pub use mathlib.Core.Option.{Option, none, some}
pub use Prim.Native.Nat.{ℕ, zero, suc, ◌+◌, ◌-◌, ◌<◌, ◌≤◌}
pub use native.Mathlib.Omega.{arith}
pub use lib.Dec.{ltb, eqb}
pub use lib.ListN.{length, get_or, set, replicate, length-set, length-replicate}
pub use lib.Seq.{get_or-set_same, get_or-set_other, set-set, ext_get_or}
pub use borrow.Author.Tests.{ltb-true, ltb-false, lt-ltb, leb-false, eqb-true, eqb-false, eq-eqb, ne_eqb, not-true, not-false}
