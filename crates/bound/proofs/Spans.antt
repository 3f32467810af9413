-- Spans: each section that is drawn widens its two. Assumes nothing.
use Rattle.std.specs.Prelude.{if◌then◌else◌, Some, None, IfSome}
use mathlib.Core.Path.{◌≡◌, refl, ap, ◌∙◌}
use mathlib.Core.Logic.{⊎_elim}
use Prim.Native.Nat.{ℕ, zero, suc, ◌+◌, ◌-◌, ◌<◌, ◌≤◌}
use native.Mathlib.Omega.{arith}
use lib.Dec.{eqb}
use lib.ListN.{length, get_or, set, replicate, length-set}
use lib.Seq.{get_or-set_same, get_or-set_other}
use borrow.Author.Tests.{eqb-true, eqb-false}
use Rattle.laws.proofs.Cases.{split}
use Rattle.laws.proofs.Fold.{last_or_below}
use Rattle.bound.specs.declared.Span.{Span}
use Rattle.bound.specs.declared.Sections.{Sections}
use Rattle.bound.specs.Table.{Parent, section_at}
use Rattle.bound.specs.Computed.{Spans, no_span, on_span, in_span, from_in, end_in, widened, Covers, Spanned}
use Rattle.bound.proofs.Accepted.{Accepted}

-- no span goes past n
record Within (spans : Spans) (n : ℕ) : Type 0 where
  long : length spans ≡ 109
  order : (k : ℕ) → from_in spans k ≤ end_in spans k - 1
  most : (k : ℕ) → end_in spans k ≤ n

-- span k with section i at its end
abbrev pub widen : Spans → ℕ → ℕ → Spans
widen spans k i = set spans k (widened (get_or spans k no_span) i)

module _ (spans : Spans) (n i k : ℕ) (b : Within spans n) (l : k < 109) (m : n ≤ i + 1) where
  here : get_or (widen spans k i) k no_span ≡ widened (get_or spans k no_span) i
  here = get_or-set_same spans k _ no_span (omega (arith, b.long))

  elsewhere : (j : ℕ) → (j ≡ k → ⊥) → get_or (widen spans k i) j no_span ≡ get_or spans j no_span
  elsewhere j d = get_or-set_other spans k j _ no_span d

  from_is : from_in (widen spans k i) k ≡ (if eqb (end_in spans k) 0 then i else from_in spans k)
  from_is = ap (λ span. span.from) here

  end_is : end_in (widen spans k i) k ≡ i + 1
  end_is = ap (λ span. span.end) here

  from_else : (j : ℕ) → (j ≡ k → ⊥) → from_in (widen spans k i) j ≡ from_in spans j
  from_else j d = ap (λ span. span.from) (elsewhere j d)

  end_else : (j : ℕ) → (j ≡ k → ⊥) → end_in (widen spans k i) j ≡ end_in spans j
  end_else j d = ap (λ span. span.end) (elsewhere j d)

  from_most : from_in (widen spans k i) k ≤ i
  from_most =
      rw from_is
      (split (eqb (end_in spans k) 0) (λ y. rw y (omega arith)) (λ f. rw f (omega (arith, b.order k, b.most k, eqb-false (end_in spans k) 0 f))))

  kept_from : (p : ℕ) → p < end_in spans k → from_in spans k ≤ p → from_in (widen spans k i) k ≤ p
  kept_from p h g = rw from_is (split (eqb (end_in spans k) 0) (λ y. rw y (omega (arith, eqb-true (end_in spans k) 0 y))) (λ f. rw f g))

  widen_within : Within (widen spans k i) (i + 1)
  widen_within =
      record {
        long = length-set spans k _ ∙ b.long;
        order = λ j.
            split (eqb j k)
            (λ y. rw (eqb-true j k y) (omega (arith, from_most, end_is)))
            (λ f. rw (from_else j (eqb-false j k f), end_else j (eqb-false j k f)) (b.order j));
        most = λ j.
            split (eqb j k)
            (λ y. rw (eqb-true j k y) (omega (arith, end_is)))
            (λ f. rw (end_else j (eqb-false j k f)) (omega (arith, b.most j)));
      }

  covers_itself : Covers (widen spans k i) k i
  covers_itself = (from_most, omega (arith, end_is))

  covers_still : (j p : ℕ) → p ≤ i → Covers spans j p → Covers (widen spans k i) j p
  covers_still j p h c =
      split (eqb j k)
      (λ y. rw (eqb-true j k y) (kept_from p (rw (eqb-true j k y) at c.1) (rw (eqb-true j k y) at c.0), omega (arith, end_is)))
      (λ f. rw (from_else j (eqb-false j k f), end_else j (eqb-false j k f)) c)

-- the spans of the first i sections
pub record Begun (s : Sections) (spans : Spans) (i : ℕ) : Type 0 where
  within : Within spans i
  on : (p : ℕ) → p < i → Covers spans (on_span (section_at s p).task.0 (section_at s p).resource) p
  inside : (p : ℕ) → p < i → Covers spans (in_span (section_at s p).parent) p

empty_at : (n k : ℕ) → (from_in (replicate n no_span) k ≡ 0) × (end_in (replicate n no_span) k ≡ 0)
empty_at zero k = (refl, refl)
empty_at (suc n) zero = (refl, refl)
empty_at (suc n) (suc k) = empty_at n k

pub spans_none : (s : Sections) → Begun s (replicate 109 no_span) 0
spans_none s =
    record {
      within = record { long = refl; order = λ k. omega (arith, (empty_at 109 k).0); most = λ k. omega (arith, (empty_at 109 k).1) };
      on = λ p l. absurd (omega arith);
      inside = λ p l. absurd (omega arith);
    }

earlier_there : (s : Sections) → Accepted s → (i : ℕ) → i < s.count → (o : Parent) → (section_at s i).parent ≡ o → IfSome o (λ p. p < 12)
earlier_there s good i l None e = tt
earlier_there s good i l (Some p) e = omega (arith, good.parent_earlier i p l e, good.count_most)

-- a parent is one of the sections
pub parent_there : (s : Sections) → Accepted s → (i : ℕ) → i < s.count → IfSome (section_at s i).parent (λ p. p < 12)
parent_there s good i l = earlier_there s good i l (section_at s i).parent refl

in_span_most : (o : Parent) → IfSome o (λ p. p < 12) → in_span o < 109
in_span_most None h = omega arith
in_span_most (Some p) h = omega arith

spans_more : (s : Sections) → Accepted s → (spans : Spans) (i : ℕ) → i < s.count → Begun s spans i
    → Begun s (widen (widen spans (on_span (section_at s i).task.0 (section_at s i).resource) i) (in_span (section_at s i).parent) i) (i + 1)
spans_more s good spans i l b =
    let k = on_span (section_at s i).task.0 (section_at s i).resource in
    let j = in_span (section_at s i).parent in
    let low : k < 109 = omega (arith, good.task_there i l, good.tasks_most, good.resource_most i l) in
    let high : j < 109 = in_span_most (section_at s i).parent (parent_there s good i l) in
    let once = widen_within spans i i k b.within low (omega arith) in
    let first = covers_still spans i i k b.within low (omega arith) in
    let second = covers_still (widen spans k i) (i + 1) i j once high (omega arith) in
    record {
      within = widen_within (widen spans k i) (i + 1) i j once high (omega arith);
      on = λ p m.
          ⊎_elim
          (λ (e : p ≡ i). rw e (second k i (omega arith) (covers_itself spans i i k b.within low (omega arith))))
          (λ (e : p < i). second _ p (omega arith) (first _ p (omega arith) (b.on p e)))
          (last_or_below p i (omega arith));
      inside = λ p m.
          ⊎_elim
          (λ (e : p ≡ i). rw e (covers_itself (widen spans k i) (i + 1) i j once high (omega arith)))
          (λ (e : p < i). second _ p (omega arith) (first _ p (omega arith) (b.inside p e)))
          (last_or_below p i (omega arith));
    }

-- the same from what the code has found
pub spans_turn
    : (s : Sections) → Accepted s → (spans : Spans) (i : ℕ) → i < s.count → Begun s spans i
    → (k j : ℕ) (w v : Span) → k ≡ on_span (section_at s i).task.0 (section_at s i).resource → w ≡ widened (get_or spans k no_span) i
    → j ≡ in_span (section_at s i).parent → v ≡ widened (get_or (set spans k w) j no_span) i → Begun s (set (set spans k w) j v) (i + 1)
spans_turn s good spans i l b k j w v ek ew ej ev = rw (ev, ew, ek, ej) (spans_more s good spans i l b)

pub spans_done : (s : Sections) (spans : Spans) (i : ℕ) → i ≤ s.count → s.count ≤ i → Begun s spans i → Spanned s spans
spans_done s spans i l m b =
    record {
      in_order = b.within.order;
      end_most = λ k. omega (arith, b.within.most k);
      on_covered = λ p h. b.on p (omega arith);
      in_covered = λ p h. b.inside p (omega arith);
    }
