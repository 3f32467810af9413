-- What a loop that counts up computes, by recursion on the number of turns done, so that a turn of the loop is the definition itself.
-- Each goes over an index function, never over a list. Assumes nothing.
use Rattle.std.specs.Prelude.{Bool, true, ◌&&◌, List, [], ◌++◌, ℕ, zero, suc, ◌+◌, ltb, set, replicate, if◌then◌else◌}
use Rattle.laws.specs.Tests.{bit}

-- how many of p 0 .. p (n - 1) hold
unfoldable pub count_to : ℕ → (ℕ → Bool) → ℕ
count_to zero p = 0
count_to (suc n) p = count_to n p + bit (p n)

-- whether all of p 0 .. p (n - 1) hold
unfoldable pub all_to : ℕ → (ℕ → Bool) → Bool
all_to zero p = true
all_to (suc n) p = all_to n p && p n

-- f 0 + .. + f (n - 1)
unfoldable pub sum_to : ℕ → (ℕ → ℕ) → ℕ
sum_to zero f = 0
sum_to (suc n) f = sum_to n f + f n

module _ {ℓ} {A : Type ℓ} where
  -- xs with the element at each index i below n replaced by f i
  unfoldable pub set_to : ℕ → (ℕ → A) → List A → List A
  set_to zero f xs = xs
  set_to (suc n) f xs = set (set_to n f xs) n (f n)

  -- an array of n places with f i at each place i, which was `blank` before
  abbrev pub made_by : ℕ → (ℕ → A) → A → List A
  made_by n f blank = set_to n f (replicate n blank)

  -- f 0, then f 1, .. up to f (n - 1), done to a
  unfoldable pub fold_to : ℕ → (ℕ → A → A) → A → A
  fold_to zero f a = a
  fold_to (suc n) f a = f n (fold_to n f a)

-- the better of place i and the best so far, b, which is `none` while there is none: p says who counts, key which is more
unfoldable pub better_of : ℕ → (ℕ → Bool) → (ℕ → ℕ) → ℕ → ℕ → ℕ
better_of none p key i b = if p i then (if ltb b none then (if ltb (key b) (key i) then i else b) else i) else b

-- the first of the places below n with p and the greatest key, or `none`, a number that is no place
unfoldable pub best_to : ℕ → ℕ → (ℕ → Bool) → (ℕ → ℕ) → ℕ
best_to none n p key = fold_to n (better_of none p key) none

module _ {ℓ} {A : Type ℓ} where
  -- f 0, then f 1, .. up to f (n - 1), one after the other
  unfoldable pub join_to : ℕ → (ℕ → List A) → List A
  join_to zero f = []
  join_to (suc n) f = join_to n f ++ f n
