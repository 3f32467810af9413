-- A contract that is one equation with a definition leaves one answer: two functions that meet it agree everywhere. Assumes nothing.
use mathlib.Core.Path.{◌≡◌, sym, ◌∙◌}

pub unique {ℓ κ} : {A : Type ℓ} {B : Type κ} (definition f g : A → B) → ((x : A) → f x ≡ definition x) → ((x : A) → g x ≡ definition x) → (x : A) → f x ≡ g x
unique definition f g met also x = met x ∙ sym (also x)
