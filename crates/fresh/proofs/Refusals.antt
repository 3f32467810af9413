-- Refusals 19 to 21 of a table: what the test of the counts comes to, that nothing follows a refusal, and what no refusal says. Assumes nothing.
use mathlib.Core.Path.{◌≡◌, refl, sym, ap, ◌∙◌}
use mathlib.Core.Bool.{true, false}
use mathlib.Core.Logic.{⊎_elim}
use mathlib.Core.Option.{Option, none, some}
use Prim.Native.Nat.{ℕ, zero, suc, ◌+◌, ◌<◌, ◌≤◌}
use native.Mathlib.Numerals.{add-one}
use native.Mathlib.Omega.{arith}
use borrow.Author.Tests.{lt-ltb, le-ltb}
use Rattle.laws.specs.Tests.{first_of, ◌or_else◌}
use Rattle.laws.specs.Loops.{fold_to}
use Rattle.laws.proofs.Cases.{split, unfailed_holds, if_yes, none_some}
use Rattle.laws.proofs.Fold.{fold_keeps, last_or_below}
use Rattle.model.specs.declared.Entry.{Entry}
use Rattle.model.specs.declared.Table.{Table}
use Rattle.model.specs.Sound.{counts_fit, quota_fits, declared_fits}
use Rattle.model.specs.Fresh.{entry_at, counts_refusal, entry_refusal, task_refusal, fresh_refusal}

pub refused_stays : (tb : Table) (n m : ℕ) → fold_to n (task_refusal tb) (some m) ≡ some m
unfolding task_refusal
refused_stays tb n m = fold_keeps (λ x. x ≡ some m) (task_refusal tb) n (λ i l x p. rw p) (some m) refl

module _ (tb : Table) where
  pub counts_refused : counts_fit tb.processors tb.tasks tb.resources ≡ false → counts_refusal tb ≡ some 19
  unfolding counts_refusal first_of
  counts_refused e = rw e

  pub counts_accepted : counts_fit tb.processors tb.tasks tb.resources ≡ true → counts_refusal tb ≡ none
  unfolding counts_refusal first_of
  counts_accepted e = rw e

  -- counts that do not fit are told, whatever the tasks say
  pub counts_told : counts_fit tb.processors tb.tasks tb.resources ≡ false → fresh_refusal tb ≡ some 19
  unfolding fresh_refusal
  counts_told e = rw (counts_refused e) (refused_stays tb 16 19)

  pub counts_fit_lem : counts_refusal tb ≡ none → counts_fit tb.processors tb.tasks tb.resources ≡ true
  counts_fit_lem e = unfailed_holds _ (λ n. none_some (sym e ∙ counts_refused n))

-- a refusal that is none is none at each test
both_none : (x y : Option ℕ) → (x or_else y) ≡ none → (x ≡ none) × (y ≡ none)
both_none none y e = (refl, e)
both_none (some n) y e = none_some (sym e)

pub tests_none
    : (tb : Table) (n : ℕ) (a : Option ℕ) → fold_to n (task_refusal tb) a ≡ none
    → (a ≡ none) × ((t : ℕ) → t < n → t < tb.tasks → entry_refusal tb.resources (entry_at tb t) ≡ none)
unfolding fold_to task_refusal
tests_none tb zero a e = (e, λ t l. absurd (omega arith))
tests_none tb (suc n) a e =
    let both = both_none _ _ e in
    let before = tests_none tb n a both.0 in (
      before.0,
      λ t l m.
          ⊎_elim
          (λ (q : t ≡ n). rw q (sym (if_yes _ _ _ (lt-ltb n tb.tasks (omega arith))) ∙ both.1))
          (λ (q : t < n). before.1 t q m)
          (last_or_below t n l),
    )

pub entry_none
    : (resources : ℕ) (e : Entry) → entry_refusal resources e ≡ none
    → (quota_fits e.quota e.period ≡ true) × (declared_fits resources e.declared ≡ true)
unfolding entry_refusal first_of
entry_none resources e h =
    split
    (quota_fits e.quota e.period)
    (λ y. split (declared_fits resources e.declared) (λ z. (y, z)) (λ n. none_some (sym (rw (y, n) at h))))
    (λ n. none_some (sym (rw n at h)))

-- the refusal of the first n tasks, where the counts fit
unfoldable pub refusal_to : Table → ℕ → Option ℕ
refusal_to tb n = fold_to n (task_refusal tb) none

module _ (tb : Table) where
  -- the first refusal stays, whatever the later tasks say
  told_later : (i m n : ℕ) → refusal_to tb (i + 1) ≡ some n → i < m → refusal_to tb m ≡ some n
  unfolding refusal_to fold_to task_refusal
  told_later i zero n e l = absurd (omega arith)
  told_later i (suc m) n e l =
      ⊎_elim
      (λ (q : i ≡ m). rw (add-one, q) at e)
      (λ (q : i < m). rw (told_later i m n e q) refl)
      (last_or_below i m l)

  -- and a line past the tasks says nothing
  none_later : (m : ℕ) → tb.tasks ≤ m → refusal_to tb tb.tasks ≡ none → refusal_to tb m ≡ none
  unfolding refusal_to fold_to task_refusal
  none_later zero l e = refl
  none_later (suc m) l e =
      ⊎_elim
      (λ (q : tb.tasks ≡ suc m). ap (refusal_to tb) (sym q) ∙ e)
      (λ (q : tb.tasks < suc m). rw (none_later m (omega arith) e, le-ltb m tb.tasks (omega arith)) refl)
      (last_or_below tb.tasks (suc m) (omega arith))

  module _ (fit : counts_fit tb.processors tb.tasks tb.resources ≡ true) where
    tasks_told : fresh_refusal tb ≡ refusal_to tb 16
    unfolding fresh_refusal refusal_to
    tasks_told = rw (counts_accepted tb fit) refl

    -- one line further
    turn : (i : ℕ) → i < tb.tasks → refusal_to tb i ≡ none → refusal_to tb (i + 1) ≡ entry_refusal tb.resources (entry_at tb i)
    unfolding refusal_to fold_to task_refusal
    turn i l e = rw (add-one, e, lt-ltb i tb.tasks l) refl

    pub line_told : (i n : ℕ) → i < tb.tasks → i < 16 → refusal_to tb i ≡ none → entry_refusal tb.resources (entry_at tb i) ≡ some n → fresh_refusal tb ≡ some n
    line_told i n l m e h = tasks_told ∙ told_later i 16 n (turn i l e ∙ h) m

    pub line_passes : (i : ℕ) → i < tb.tasks → refusal_to tb i ≡ none → entry_refusal tb.resources (entry_at tb i) ≡ none → refusal_to tb (i + 1) ≡ none
    line_passes i l e h = turn i l e ∙ h

    pub none_told : tb.tasks ≤ 16 → refusal_to tb tb.tasks ≡ none → fresh_refusal tb ≡ none
    none_told l e = tasks_told ∙ none_later 16 l e

pub nothing_told : (tb : Table) → refusal_to tb 0 ≡ none
unfolding refusal_to fold_to
nothing_told tb = refl
