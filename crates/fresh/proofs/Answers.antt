-- What fresh gives back where its test is known: the answer is the test's, and the state goes by whether it passed. Assumes nothing.
use Rattle.std.specs.Prelude.{Result, Ok, Err, ⊤, is_ok}
use mathlib.Core.Path.{◌≡◌, refl, ◌∙◌}
use mathlib.Core.Bool.{true, false}
use mathlib.Core.Option.{Option, none, some}
use Prim.Native.Nat.{ℕ}
use Rattle.laws.proofs.Cases.{holds_fails}
use Rattle.model.specs.declared.Table.{Table}
use Rattle.model.specs.declared.refusals.Refusal.{Refusal}
use Rattle.model.specs.Refusals.{numbered}
use Rattle.model.specs.Verdicts.{verdict}
use Rattle.model.specs.Fresh.{fresh_refusal, fresh_state, unusable, fresh_by, fresh_of}
use Rattle.model.proofs.Refused.{passed_none, refused_some}

answer_by : (o : Option ℕ) (tb : Table) → verdict o ≡ (fresh_by o tb).answer
answer_by none tb = refl
answer_by (some n) tb = refl

module _ (tb : Table) (tested : Result ⊤ Refusal) (told : numbered tested ≡ verdict (fresh_refusal tb)) where
  pub answer_is : numbered tested ≡ (fresh_of tb).answer
  unfolding fresh_of
  answer_is = told ∙ answer_by (fresh_refusal tb) tb

module _ (tb : Table) where
  pub state_made : (tested : Result ⊤ Refusal) → numbered tested ≡ verdict (fresh_refusal tb) → is_ok tested ≡ true → fresh_state tb ≡ (fresh_of tb).state
  unfolding fresh_of
  state_made (Ok u) told e = rw (passed_none _ _ u told refl) refl
  state_made (Err refusal) told e = holds_fails e refl

  pub state_refused : (tested : Result ⊤ Refusal) → numbered tested ≡ verdict (fresh_refusal tb) → is_ok tested ≡ false → unusable ≡ (fresh_of tb).state
  unfolding fresh_of
  state_refused (Ok u) told e = holds_fails refl e
  state_refused (Err refusal) told e = rw (refused_some _ _ refusal told refl) refl
