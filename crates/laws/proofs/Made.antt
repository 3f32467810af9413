-- Arrays made by the library's `array::from_fn` and `map`: a list that has f i at each place i is the one that the definitions make place by place.
-- Assumes nothing.
use mathlib.Core.Path.{◌≡◌, sym, ◌∙◌}
use mathlib.Core.List.{List}
use Prim.Native.Nat.{ℕ, ◌<◌}
use lib.ListN.{length, get_or, replicate, length-replicate}
use Rattle.std.proofs.lemmas.List.{ext_get_or}
use Rattle.laws.specs.Loops.{made_by}
use Rattle.laws.proofs.Making.{made_at}
use Rattle.laws.proofs.Set.{length_set_to}

module _ {A : Type 0} where
  -- a list of n elements that has f i at each place i
  pub made_each : (n : ℕ) (f : ℕ → A) (blank : A) (ys : List A) → length ys ≡ n → ((i : ℕ) → i < n → get_or ys i blank ≡ f i) → ys ≡ made_by n f blank
  made_each n f blank ys long at =
      ext_get_or
      blank
      ys
      (made_by n f blank)
      (long ∙ sym (length_set_to n f (replicate n blank) ∙ length-replicate n blank))
      (λ i l. let below : i < n = rw (sym long) l in at i below ∙ sym (made_at n f blank blank i below))
