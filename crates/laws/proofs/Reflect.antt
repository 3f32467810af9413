-- A test and the fact that it decides: `Reflects b P`, and how a test of several clauses gets its fact, clause by clause. Assumes nothing.
use mathlib.Core.Path.{◌≡◌}
use mathlib.Core.Bool.{Bool, true, false, not, ◌&&◌, ◌||◌}
use mathlib.Core.Logic.{◌⊎◌, inl, inr, ⊎_elim}
use Prim.Native.Nat.{ℕ, ◌<◌, ◌≤◌}
use lib.Dec.{leb, ltb, eqb}
use borrow.Author.Tests.{leb-true, le-leb, ltb-true, lt-ltb, eqb-true, eq-eqb, not-true}
use Rattle.laws.specs.Tests.{◌implies◌, ◌iff◌}
use Rattle.laws.specs.Loops.{all_to}
use Rattle.laws.proofs.Cases.{split, holds_fails, unheld_fails, and_left, and_right, and_both}
use Rattle.laws.proofs.All.{all_at, all_each}

-- b holds exactly when P does
pub record Reflects (b : Bool) (P : Type 0) : Type 0 where
  pub holds : b ≡ true → P
  pub test : P → b ≡ true

pub reflects_self : (b : Bool) → Reflects b (b ≡ true)
reflects_self b = record { holds = λ e. e; test = λ e. e }

pub reflects_le : (a b : ℕ) → Reflects (leb a b) (a ≤ b)
reflects_le a b = record { holds = leb-true a b; test = le-leb a b }

pub reflects_lt : (a b : ℕ) → Reflects (ltb a b) (a < b)
reflects_lt a b = record { holds = ltb-true a b; test = lt-ltb a b }

pub reflects_eq : (a b : ℕ) → Reflects (eqb a b) (a ≡ b)
reflects_eq a b = record { holds = eqb-true a b; test = eq-eqb a b }

module _ {b : Bool} {P : Type 0} (r : Reflects b P) where
  -- where the test fails the fact does, and back
  pub reflects_fails : b ≡ false → P → ⊥
  reflects_fails e p = holds_fails (r.test p) e

  pub reflects_false : (P → ⊥) → b ≡ false
  reflects_false n = unheld_fails b (λ e. n (r.holds e))

  -- the fact is decided
  pub reflects_dec : P ⊎ (P → ⊥)
  reflects_dec = split b (λ e. inl (r.holds e)) (λ e. inr (reflects_fails e))

  -- one fact for another
  pub reflects_change : {Q : Type 0} → (P → Q) → (Q → P) → Reflects b Q
  reflects_change f g = record { holds = λ e. f (r.holds e); test = λ q. r.test (g q) }

pub reflects_not : {b : Bool} {P : Type 0} → Reflects b P → Reflects (not b) (P → ⊥)
reflects_not {b} r = record { holds = λ e. reflects_fails r (not-true b e); test = λ n. rw (reflects_false r n) }

module _ {a b : Bool} {P Q : Type 0} (r : Reflects a P) (s : Reflects b Q) where
  pub reflects_and : Reflects (a && b) (P × Q)
  reflects_and =
      record {
        holds = λ e. (r.holds (and_left a b e), s.holds (and_right a b e));
        test = λ h. and_both a b (r.test h.0) (s.test h.1);
      }

  pub reflects_or : Reflects (a || b) (P ⊎ Q)
  reflects_or =
      record {
        holds = λ e. split a (λ t. inl (r.holds t)) (λ f. inr (s.holds (rw f at e)));
        test = ⊎_elim (λ p. rw (r.test p)) (λ q. split a (λ t. rw t) (λ f. rw f (s.test q)));
      }

  pub reflects_implies : Reflects (a implies b) (P → Q)
  reflects_implies =
      record {
        holds = λ e p. s.holds (rw (r.test p) at e);
        test = λ h. split a (λ t. rw t (s.test (h (r.holds t)))) (λ f. rw f);
      }

pub reflects_iff : {a b : Bool} {P Q : Type 0} → Reflects a P → Reflects b Q → Reflects (a iff b) ((P → Q) × (Q → P))
reflects_iff {a} {b} r s =
    record {
      holds = λ e.
          split a
          (λ t. (λ p. s.holds (rw t at e), λ q. r.holds t))
          (λ f. (λ p. absurd (reflects_fails r f p), λ q. absurd (reflects_fails s (not-true b (rw f at e)) q)));
      test = λ h.
          split a
          (λ t. rw t (s.test (h.0 (r.holds t))))
          (λ f. rw (f, reflects_false s (λ q. reflects_fails r f (h.1 q))));
    }

pub reflects_all
    : (n : ℕ) (p : ℕ → Bool) (P : ℕ → Type 0) → ((i : ℕ) → i < n → Reflects (p i) (P i)) → Reflects (all_to n p) ((i : ℕ) → i < n → P i)
reflects_all n p P r =
    record {
      holds = λ e i l. (r i l).holds (all_at p n i l e);
      test = λ h. all_each p n (λ i l. (r i l).test (h i l));
    }
