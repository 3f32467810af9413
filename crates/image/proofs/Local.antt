-- Entries are read from their own bytes alone: where two lists have the same bytes from one offset up to another, what lies between is read alike. Assumes
-- nothing.
use mathlib.Core.Path.{◌≡◌, ap}
use mathlib.Core.List.{List}
use Prim.Native.Nat.{ℕ, ◌+◌, ◌*◌, ◌<◌, ◌≤◌}
use native.Mathlib.Omega.{arith}
use lib.Dec.{ltb}
use lib.ListN.{replicate}
use Rattle.laws.proofs.Set.{set_same}
use Rattle.lent_bytes.specs.Numbers.{byte_at, two_bytes, four_bytes}
use Rattle.model.specs.State.{places}
use Rattle.image.specs.Encoded.{no_task_no}
use Rattle.image.specs.Decoded.{phase_of, mode_of, runs_of, owner_of, tag_fits, tagged_in, tagged_fits, server_fits, task_fits, resource_fits, entry_in, entries_in, task_no_in, server_in, task_in, resource_in}

abbrev pub SameBytes : List ℕ → List ℕ → ℕ → ℕ → Type 0
SameBytes a b from to = (i : ℕ) → from ≤ i → i < to → byte_at a i ≡ byte_at b i

-- entries one by one
pub entries_same
    : {A : Type 0} (get : List ℕ → ℕ → A) (size : ℕ) (blank : A) (n : ℕ) (a b : List ℕ) (at : ℕ)
    → ((i : ℕ) → i < n → get a (at + size * i) ≡ get b (at + size * i)) → entries_in get size blank n a at ≡ entries_in get size blank n b at
unfolding entries_in entry_in
entries_same get size blank n a b at e = set_same (entry_in get size a at) (entry_in get size b at) n (replicate places blank) e

module _ (a b : List ℕ) (from to : ℕ) (same : SameBytes a b from to) where
  pub two_same : (at : ℕ) → from ≤ at → at + 2 ≤ to → two_bytes a at ≡ two_bytes b at
  unfolding two_bytes
  two_same at l m = rw (same at l (omega arith), same (at + 1) (omega arith) (omega arith))

  pub four_same : (at : ℕ) → from ≤ at → at + 4 ≤ to → four_bytes a at ≡ four_bytes b at
  unfolding four_bytes
  four_same at l m = rw (two_same at l (omega arith), two_same (at + 2) (omega arith) (omega arith))

  tagged_same : (at : ℕ) → from ≤ at → at + 3 ≤ to → tagged_in a at ≡ tagged_in b at
  tagged_same at l m = λ j. record { tag = same at l (omega arith) j; number = two_same (at + 1) (omega arith) (omega arith) j }

  tagged_fits_same : (last at : ℕ) → from ≤ at → at + 3 ≤ to → tagged_fits last a at ≡ tagged_fits last b at
  unfolding tagged_fits
  tagged_fits_same last at l m = ap (tag_fits last) (tagged_same at l m)

  module _ (at : ℕ) (low : from ≤ at) where
    pub server_fits_same : at + 29 ≤ to → server_fits a at ≡ server_fits b at
    unfolding server_fits
    server_fits_same m = ap (λ n. ltb n 4) (same at low (omega arith))

    pub task_fits_same : at + 46 ≤ to → task_fits a at ≡ task_fits b at
    unfolding task_fits
    task_fits_same m = rw (tagged_fits_same 2 at low (omega arith), tagged_fits_same 1 (at + 3) (omega arith) (omega arith))

    pub resource_fits_same : at + 37 ≤ to → resource_fits a at ≡ resource_fits b at
    unfolding resource_fits
    resource_fits_same m = tagged_fits_same 1 at low (omega arith)

    pub server_same : at + 29 ≤ to → server_in a at ≡ server_in b at
    unfolding server_in
    server_same m = λ j. record {
      phase = phase_of (same at low (omega arith) j);
      budget = four_same (at + 1) (omega arith) (omega arith) j;
      deadline = four_same (at + 5) (omega arith) (omega arith) j;
      quota = four_same (at + 9) (omega arith) (omega arith) j;
      period = four_same (at + 13) (omega arith) (omega arith) j;
      own = four_same (at + 17) (omega arith) (omega arith) j;
      lent = four_same (at + 21) (omega arith) (omega arith) j;
      spin = four_same (at + 25) (omega arith) (omega arith) j;
    }

    pub task_same : at + 46 ≤ to → task_in a at ≡ task_in b at
    unfolding task_in
    task_same m =
        let held = entries_same two_bytes 2 0 places a b (at + 14) (λ i l. two_same (at + 14 + 2 * i) (omega arith) (omega arith)) in
        λ j. record {
          mode = mode_of (tagged_same at low (omega arith) j);
          runs = runs_of (tagged_same (at + 3) (omega arith) (omega arith) j);
          declared = two_same (at + 6) (omega arith) (omega arith) j;
          depth = two_same (at + 8) (omega arith) (omega arith) j;
          executed = four_same (at + 10) (omega arith) (omega arith) j;
          held = held j;
        }

    pub resource_same : at + 37 ≤ to → resource_in a at ≡ resource_in b at
    unfolding resource_in
    resource_same m =
        let queue =
        entries_same task_no_in 2 no_task_no places a b (at + 5)
        (λ i l. λ j. record { 0 = two_same (at + 5 + 2 * i) (omega arith) (omega arith) j }) in
        λ j. record {
          owner = owner_of (tagged_same at low (omega arith) j);
          waiting = two_same (at + 3) (omega arith) (omega arith) j;
          queue = queue j;
        }
