-- Codecs: how a value is put into bytes and got out of them again, and that the two give each other back. A codec of parts that follow one another, and
-- of a record, is made of the codecs of its parts; those of numbers stand at the end. Assumes nothing.
use mathlib.Core.Path.{◌≡◌, refl, sym, ap, subst, ◌∙◌}
use mathlib.Core.List.{List, ◌++◌}
use Prim.Native.Nat.{ℕ, ◌+◌, ◌*◌, ◌/◌, ◌%◌}
use native.Mathlib.Omega.{arith}
use lib.ListN.{length, length-append}
use Rattle.lent_bytes.specs.Numbers.{two_bytes, four_bytes, one, two, four, Bytes, Fits16, Fits32}
use Rattle.lent_bytes.proofs.Stands.{Stands, moved, stands_first, stands_rest, stands_both}

-- `put` makes `size` bytes of a value, `get` reads it at an offset. `Fit` says which values come back, `Good` at which offsets of which bytes a value
-- stands.
pub record Codec {A : Type 0} (size : ℕ) (put : A → List ℕ) (get : List ℕ → ℕ → A) (Fit : A → Type 0) (Good : List ℕ → ℕ → Type 0) : Type 0 where
  pub long : (a : A) → length (put a) ≡ size
  pub back : (a : A) (bytes : List ℕ) (at : ℕ) → Fit a → Stands (put a) bytes at → get bytes at ≡ a
  pub good : (a : A) (bytes : List ℕ) (at : ℕ) → Fit a → Stands (put a) bytes at → Good bytes at
  pub forth : (bytes : List ℕ) (at : ℕ) → Bytes bytes → Good bytes at → Stands (put (get bytes at)) bytes at

-- one part after another
module _
    {A B : Type 0} {m n : ℕ} {put_a : A → List ℕ} {putB : B → List ℕ} {get_a : List ℕ → ℕ → A} {get_b : List ℕ → ℕ → B}
    {FitA : A → Type 0} {FitB : B → Type 0} {GoodA GoodB : List ℕ → ℕ → Type 0}
    (a : Codec m put_a get_a FitA GoodA) (b : Codec n putB get_b FitB GoodB)
  where
    infixr 20 ◌then◌
    pub ◌then◌
        : Codec (m + n)
        (λ (p : A × B). put_a p.0 ++ putB p.1)
        (λ bytes at. (get_a bytes at, get_b bytes (at + m)))
        (λ p. FitA p.0 × FitB p.1)
        (λ bytes at. GoodA bytes at × GoodB bytes (at + m))
    ◌then◌ = record {
      long = λ p. length-append (put_a p.0) (putB p.1) ∙ omega (arith, a.long p.0, b.long p.1);
      back = λ p bytes at fit h. λ i. (
        a.back p.0 bytes at fit.0 (stands_first (put_a p.0) (putB p.1) bytes at h) i,
        b.back p.1 bytes (at + m) fit.1 (second p bytes at h) i,
      );
      good = λ p bytes at fit h. (
        a.good p.0 bytes at fit.0 (stands_first (put_a p.0) (putB p.1) bytes at h),
        b.good p.1 bytes (at + m) fit.1 (second p bytes at h),
      );
      forth = λ bytes at all g.
          stands_both (put_a (get_a bytes at)) (putB (get_b bytes (at + m))) bytes at
          (a.forth bytes at all g.0)
          (moved (putB (get_b bytes (at + m))) bytes (at + m) (at + length (put_a (get_a bytes at))) (omega (arith, a.long (get_a bytes at)))
          (b.forth bytes (at + m) all g.1));
    }
      where
        second : (p : A × B) (bytes : List ℕ) (at : ℕ) → Stands (put_a p.0 ++ putB p.1) bytes at → Stands (putB p.1) bytes (at + m)
        second p bytes at h =
            moved (putB p.1) bytes (at + length (put_a p.0)) (at + m) (omega (arith, a.long p.0))
            (stands_rest (put_a p.0) (putB p.1) bytes at h)

-- the same bytes for values of another type
module _
    {A B : Type 0} {size : ℕ} {put_a : A → List ℕ} {get_a : List ℕ → ℕ → A} {FitA : A → Type 0} {GoodA : List ℕ → ℕ → Type 0}
    (a : Codec size put_a get_a FitA GoodA)
    (to : B → A) (from : A → B) (there : (x : A) → to (from x) ≡ x) (home : (b : B) → from (to b) ≡ b)
    {put : B → List ℕ} {get : List ℕ → ℕ → B} {Fit : B → Type 0} {Good : List ℕ → ℕ → Type 0}
  where
    pub recoded
        : ((b : B) → put b ≡ put_a (to b))
        → ((bytes : List ℕ) (at : ℕ) → get bytes at ≡ from (get_a bytes at))
        → ((b : B) → Fit b → FitA (to b))
        → ((bytes : List ℕ) (at : ℕ) → GoodA bytes at → Good bytes at)
        → ((bytes : List ℕ) (at : ℕ) → Good bytes at → GoodA bytes at)
        → Codec size put get Fit Good
    recoded puts gets fits good bad = record {
      long = λ b. ap length (puts b) ∙ a.long (to b);
      back = λ b bytes at fit h. gets bytes at ∙ ap from (a.back (to b) bytes at (fits b fit) (rw (puts b) at h)) ∙ home b;
      good = λ b bytes at fit h. good bytes at (a.good (to b) bytes at (fits b fit) (rw (puts b) at h));
      forth = λ bytes at all g.
          subst (λ vs. Stands vs bytes at)
          (sym (puts (get bytes at) ∙ ap put_a (ap to (gets bytes at) ∙ there (get_a bytes at))))
          (a.forth bytes at all (bad bytes at g));
    }

-- any bytes
abbrev pub Any : List ℕ → ℕ → Type 0
Any bytes at = Unit {0}

pub two_codec : Codec 2 two two_bytes Fits16 Any
unfolding two two_bytes
two_codec = record {
  long = λ n. refl;
  back = λ n bytes at fit h. omega (arith, h.0, h.1.0);
  good = λ n bytes at fit h. tt;
  forth = λ bytes at all g. (omega (arith, all at, all (at + 1)), (omega (arith, all at, all (at + 1)), tt));
}

two_small : (bytes : List ℕ) (at : ℕ) → Bytes bytes → Fits16 (two_bytes bytes at)
unfolding two_bytes
two_small bytes at all = omega (arith, all at, all (at + 1))

pub four_codec : Codec 4 four four_bytes Fits32 Any
unfolding four four_bytes
four_codec =
    let halves = two_codec then two_codec in
    record {
      long = λ n. halves.long (n % 65536, n / 65536);
      back = λ n bytes at fit h.
          let e = halves.back (n % 65536, n / 65536) bytes at (omega arith, omega arith) h in
          omega (arith, ap (λ p. p.0) e, ap (λ p. p.1) e);
      good = λ n bytes at fit h. tt;
      forth = λ bytes at all g.
          let low = two_small bytes at all in
          let lows : (two_bytes bytes at + 65536 * two_bytes bytes (at + 2)) % 65536 ≡ two_bytes bytes at = omega arith in
          let highs : (two_bytes bytes at + 65536 * two_bytes bytes (at + 2)) / 65536 ≡ two_bytes bytes (at + 2) = omega arith in
          rw (lows, highs) (halves.forth bytes at all (tt, tt));
    }

-- their lengths, for the code that writes them
pub one_long : (n : ℕ) → length (one n) ≡ 1
unfolding one
one_long n = refl

pub two_long : (n : ℕ) → length (two n) ≡ 2
two_long n = two_codec.long n

pub four_long : (n : ℕ) → length (four n) ≡ 4
four_long n = four_codec.long n
