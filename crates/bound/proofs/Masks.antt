-- A set of resources as a number: what a bit more, the bits of two numbers and their common bits are as sets. Assumes nothing.
use mathlib.Core.Path.{◌≡◌, refl, sym, ap, ap₂, ◌∙◌}
use mathlib.Core.Bool.{Bool, true, false, not, ◌&&◌, ◌||◌, true≢false}
use mathlib.Core.Logic.{◌⊎◌, inl, inr, ⊎_elim}
use Prim.Native.Nat.{ℕ, zero, suc, ◌+◌, ◌*◌, ◌/◌, ◌%◌, ◌^◌, ◌<◌, min, max}
use native.Mathlib.Nat.{mod-lt, div-add-mod', div-one}
use native.Mathlib.Numerals.{add-one}
use native.Mathlib.Omega.{arith}
use lib.Arith.{digits_mod}
use lib.Bits.{bit_and, bit_or, and_step, or_step, and_shr, or_shr, and_le_l}
use lib.Dec.{eqb}
use lib.ListN.{length, length-set}
use lib.Pow.{shr-shr, shr_lt}
use lib.Seq.{ext_get_or}
use borrow.Author.Tests.{eqb-true, eq-eqb}
use Rattle.laws.specs.Tests.{◌iff◌, bit}
use Rattle.laws.specs.Loops.{all_to, set_to}
use Rattle.laws.proofs.All.{all_at, all_ext}
use Rattle.laws.proofs.Cases.{split, tests_same}
use Rattle.laws.proofs.Lists.{get_d_set}
use Rattle.laws.proofs.Set.{set_at_lem, length_set_to}
use Rattle.bound.specs.Sets.{Resources, no_resource, has, with, in_either, joined, not_in_both, meets}
use Rattle.bound.specs.Computed.{in_mask, resources_of}

sixteen : (m : ℕ) → length (resources_of m) ≡ 16
unfolding resources_of
sixteen m = length_set_to 16 (in_mask m) no_resource

mask_has : (m r : ℕ) → r < 16 → has (resources_of m) r ≡ in_mask m r
unfolding resources_of
mask_has m r l = set_at_lem 16 r (in_mask m) no_resource false l l

-- two sets with the same resources
same_set : (xs ys : Resources) → length xs ≡ 16 → length ys ≡ 16 → ((r : ℕ) → r < 16 → has xs r ≡ has ys r) → xs ≡ ys
same_set xs ys e d h = ext_get_or false xs ys (e ∙ sym d) (λ r l. h r (omega arith))

-- a digit
digit : (x : ℕ) → x < 2 → (x ≡ 0) ⊎ (x ≡ 1)
digit zero l = inl refl
digit (suc zero) l = inr refl
digit (suc (suc x)) l = absurd (omega arith)

low : (x : ℕ) → x % 2 < 2
low x = mod-lt x (omega arith)

-- an operation digit by digit, and the test of its bits that it makes
module _ (op digits : ℕ → ℕ → ℕ) (test : Bool → Bool → Bool)
    (shr : (a b r : ℕ) → op a b / 2 ^ r ≡ op (a / 2 ^ r) (b / 2 ^ r))
    (step : (a b : ℕ) → op a b ≡ op (a / 2) (b / 2) * 2 + digits (a % 2) (b % 2))
    (table : (digits 0 0 ≡ bit (test false false)) × (digits 0 1 ≡ bit (test false true)) × (digits 1 0 ≡ bit (test true false)) × (digits 1 1 ≡ bit (test true true))) where
  digits_test : (x y : ℕ) → x < 2 → y < 2 → digits x y ≡ bit (test (eqb x 1) (eqb y 1))
  digits_test x y l m =
      ⊎_elim
      (λ (e : x ≡ 0). ⊎_elim (λ (d : y ≡ 0). rw (e, d) table.0) (λ (d : y ≡ 1). rw (e, d) table.1) (digit y m))
      (λ (e : x ≡ 1). ⊎_elim (λ (d : y ≡ 0). rw (e, d) table.2) (λ (d : y ≡ 1). rw (e, d) table.3) (digit y m))
      (digit x l)

  bit_made : (b : Bool) (h : ℕ) → eqb ((h * 2 + bit b) % 2) 1 ≡ b
  bit_made true h = ap (λ n. eqb n 1) (digits_mod h (omega arith))
  bit_made false h = ap (λ n. eqb n 1) (digits_mod h (omega arith))

  mask_bit : (a b r : ℕ) → in_mask (op a b) r ≡ test (in_mask a r) (in_mask b r)
  unfolding in_mask
  mask_bit a b r =
      let x = a / 2 ^ r in
      let y = b / 2 ^ r in
      ap (λ n. eqb (n % 2) 1) (shr a b r ∙ step x y)
      ∙ ap (λ d. eqb ((op (x / 2) (y / 2) * 2 + d) % 2) 1) (digits_test (x % 2) (y % 2) (low x) (low y)) ∙ bit_made _ (op (x / 2) (y / 2))

or_bit : (a b r : ℕ) → in_mask (bit_or a b) r ≡ (in_mask a r || in_mask b r)
or_bit = mask_bit bit_or max ◌||◌ or_shr or_step (refl, refl, refl, refl)

and_bit : (a b r : ℕ) → in_mask (bit_and a b) r ≡ (in_mask a r && in_mask b r)
and_bit = mask_bit bit_and min ◌&&◌ and_shr and_step (refl, refl, refl, refl)

-- a number with one bit, as a shift makes it
abbrev one_bit : ℕ → ℕ
one_bit q = (1 * 2 ^ q) % 2 ^ 16

unfoldable alone : ℕ → ℕ → Bool
alone q r = in_mask (one_bit q) r iff eqb r q

unfoldable all_alone : ℕ → Bool
all_alone q = all_to 16 (alone q)

bits_alone : all_to 16 all_alone ≡ true
unfolding all_to all_alone alone in_mask
bits_alone = refl

same_test : (a b : Bool) → (a iff b) ≡ true → a ≡ b
same_test true true e = refl
same_test true false e = sym e
same_test false true e = e
same_test false false e = refl

bit_alone : (q r : ℕ) → q < 16 → r < 16 → in_mask (one_bit q) r ≡ eqb r q
unfolding alone all_alone
bit_alone q r l m = same_test (in_mask (one_bit q) r) (eqb r q) (all_at (alone q) 16 r m (all_at all_alone 16 q l bits_alone))

-- a resource more
pub mask_with : (m q : ℕ) → q < 16 → resources_of (bit_or (one_bit q) m) ≡ with (resources_of m) q
mask_with m q l =
    same_set _ _ (sixteen _) (length-set (resources_of m) q true ∙ sixteen m)
    (λ r k.
    mask_has (bit_or (one_bit q) m) r k ∙ or_bit (one_bit q) m r ∙ ap₂ ◌||◌ (bit_alone q r l k) (sym (mask_has m r k))
    ∙ split (eqb r q) (λ y. rw y) (λ n. rw n)
    ∙ sym (get_d_set (resources_of m) q r true false (omega (arith, sixteen m))))

pub mask_joined : (a b : ℕ) → resources_of (bit_or a b) ≡ joined (resources_of a) (resources_of b)
unfolding joined in_either
mask_joined a b =
    same_set _ _ (sixteen _) (length_set_to 16 _ (resources_of a) ∙ sixteen a)
    (λ r k.
    mask_has (bit_or a b) r k ∙ or_bit a b r ∙ ap₂ ◌||◌ (sym (mask_has a r k)) (sym (mask_has b r k))
    ∙ sym (set_at_lem 16 r (in_either (resources_of a) (resources_of b)) (resources_of a) false k (omega (arith, sixteen a))))

-- bit r of a number is 0
unfoldable unset : ℕ → ℕ → Bool
unset m r = not (in_mask m r)

no_bits : (k x : ℕ) → x < 2 ^ k → ((r : ℕ) → r < k → unset x r ≡ true) → x ≡ 0
unfolding unset in_mask
no_bits zero x l h = omega arith
no_bits (suc k) x l h =
    let wide : x < 2 ^ (k + 1) = rw (← add-one k) at l in
    let half : x / 2 ≡ 0 =
    no_bits k (x / 2) (shr_lt k 1 wide)
    (λ r m. ap (λ n. not (eqb (n % 2) 1)) (shr-shr x 1 r ∙ ap (λ n. x / 2 ^ n) (let d : 1 + r ≡ suc r = omega arith in d)) ∙ h (suc r) (omega arith))
    in
    ⊎_elim
    (λ (e : x % 2 ≡ 0). omega (arith, div-add-mod' x 2))
    (λ (e : x % 2 ≡ 1). let q : not (eqb (x % 2) 1) ≡ true = rw div-one at (h 0 (omega arith)) in let z : false ≡ true = rw e at q in absurd (true≢false (sym z)))
    (digit (x % 2) (low x))

zero_bits : all_to 16 (unset 0) ≡ true
unfolding all_to unset in_mask
zero_bits = refl

nothing_common : (x : ℕ) → x < 2 ^ 16 → eqb x 0 ≡ all_to 16 (unset x)
nothing_common x l =
    tests_same (eqb x 0) (all_to 16 (unset x))
    (λ e. rw (eqb-true x 0 e) zero_bits)
    (λ e. eq-eqb x 0 (no_bits 16 x l (λ r m. all_at (unset x) 16 r m e)))

-- whether two sets meet
pub mask_meets : (a b : ℕ) → a < 2 ^ 16 → not (eqb (bit_and a b) 0) ≡ meets (resources_of a) (resources_of b)
unfolding meets not_in_both unset
mask_meets a b l =
    ap not
    (nothing_common (bit_and a b) (omega (arith, and_le_l a b))
    ∙ all_ext 16 (unset (bit_and a b)) (not_in_both (resources_of a) (resources_of b))
    (λ r k. ap not (and_bit a b r ∙ ap₂ ◌&&◌ (sym (mask_has a r k)) (sym (mask_has b r k)))))

pub mask_none : resources_of 0 ≡ no_resource
unfolding resources_of set_to in_mask
mask_none = refl
