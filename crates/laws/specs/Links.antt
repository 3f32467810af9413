-- Following links among the numbers below n: x is linked to next x where that is below n, and ends where it is not. Assumes nothing.
use Rattle.std.specs.Prelude.{◌≡◌, ℕ, zero, suc, ◌<◌, ◌≤◌, ltb, if◌then◌else◌}

-- one link on, or x itself where it ends
unfoldable pub hop : ℕ → (ℕ → ℕ) → ℕ → ℕ
hop n next x = if ltb (next x) n then next x else x

-- k links on, or fewer where it ends before
unfoldable pub walk : ℕ → (ℕ → ℕ) → ℕ → ℕ → ℕ
walk n next zero x = x
walk n next (suc k) x = walk n next k (hop n next x)

-- no link leads on from x
abbrev pub Ended : ℕ → (ℕ → ℕ) → ℕ → Type 0
Ended n next x = n ≤ next x

-- exactly k links lead from x to y
unfoldable pub Leads : ℕ → (ℕ → ℕ) → ℕ → ℕ → ℕ → Type 0
Leads n next zero x y = x ≡ y
Leads n next (suc k) x y = (next x < n) × Leads n next k (next x) y
