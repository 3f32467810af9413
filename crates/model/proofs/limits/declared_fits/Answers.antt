-- `model::limits::declared_fits` meets its contract: nothing is left of the set above the resources' bits. Assumes nothing.
use Rattle.std.proofs.Common.{◌≡◌, ℕ, ◌/◌, ◌<◌}
use mathlib.Core.Path.{sym, ◌∙◌}
use native.Mathlib.Nat.{div-eq_of_lt, div-lt_iff_lt-mul, one-mul}
use lib.Pow.{pow_pos}
use native.Mathlib.Omega.{arith}
use lib.Dec.{eqb, ltb}
use borrow.Author.Tests.{ltb-true, ltb-false, eq-eqb, ne_eqb}
use Rattle.laws.proofs.Cases.{split}
use Rattle.model.proofs.limits.declared_fits.Goals as goal

none_left : (d k : ℕ) → 0 < k → eqb (d / k) 0 ≡ ltb d k
none_left d k p =
    split
    (ltb d k)
    (λ y. eq-eqb _ _ (div-eq_of_lt (ltb-true d k y)) ∙ sym y)
    (λ n. ne_eqb (d / k) 0 (λ (e : d / k ≡ 0). omega (arith, ltb-false d k n, rw one-mul at ((div-lt_iff_lt-mul {k = k} {x = d} {y = 1} p).0 (omega arith)))) ∙ sym n)

pub returns : goal.returns
returns c = rw c.from.ensures (none_left c.args.declared _ (pow_pos c.args.resources))
