-- Two lists of one length that agree at the places of one label, and that a store, or a store at every place, in both of them leaves that so.
-- Assumes nothing.
use mathlib.Core.Path.{◌≡◌, refl, sym, ap, ◌∙◌}
use mathlib.Core.List.{List}
use Prim.Native.Nat.{ℕ, ◌<◌}
use lib.Dec.{eqb, ltb}
use lib.ListN.{length, get_or, set, length-set}
use lib.Seq.{get_or-set_other}
use borrow.Author.Tests.{eqb-true, eqb-false, ltb-true, ltb-false}
use Rattle.laws.specs.Loops.{set_to}
use Rattle.laws.proofs.Cases.{split}
use Rattle.laws.proofs.Lists.{set_both}
use Rattle.laws.proofs.Set.{length_set_to, set_at_lem, set_past}

-- l and m have n places, and agree at those with the label g; d is what is read past the end
pub record SameAt {A : Type 0} (label : ℕ → ℕ) (g n : ℕ) (d : A) (l m : List A) : Type 0 where
  pub left_long : length l ≡ n
  pub right_long : length m ≡ n
  pub entry : (i : ℕ) → label i ≡ g → get_or l i d ≡ get_or m i d

module _ {A : Type 0} {label : ℕ → ℕ} {g n : ℕ} {d : A} where
  pub same_refl : (l : List A) → length l ≡ n → SameAt label g n d l l
  same_refl l p = record { left_long = p; right_long = p; entry = λ i e. refl }

  pub same_sym : {l m : List A} → SameAt label g n d l m → SameAt label g n d m l
  same_sym h = record { left_long = h.right_long; right_long = h.left_long; entry = λ i e. sym (h.entry i e) }

  pub same_trans : {l m k : List A} → SameAt label g n d l m → SameAt label g n d m k → SameAt label g n d l k
  same_trans h j = record { left_long = h.left_long; right_long = j.right_long; entry = λ i e. h.entry i e ∙ j.entry i e }

  module _ {l m : List A} (same : SameAt label g n d l m) where
    pub store_both : (t : ℕ) (x y : A) → (label t ≡ g → x ≡ y) → SameAt label g n d (set l t x) (set m t y)
    store_both t x y v =
        record {
          left_long = length-set l t x ∙ same.left_long;
          right_long = length-set m t y ∙ same.right_long;
          entry = λ i k.
              split
              (eqb i t)
              (λ q. rw (v (ap label (sym (eqb-true i t q)) ∙ k)) (set_both l m t i y d (same.left_long ∙ sym same.right_long) (same.entry i k)))
              (λ x'. get_or-set_other l t i x d (eqb-false i t x') ∙ same.entry i k ∙ sym (get_or-set_other m t i y d (eqb-false i t x')));
        }

    -- what is stored is made of what is there
    pub stored_both : (t : ℕ) (f : A → A) → SameAt label g n d (set l t (f (get_or l t d))) (set m t (f (get_or m t d)))
    stored_both t f = store_both t _ _ (λ k. ap f (same.entry t k))

    pub each_both : (f h : ℕ → A) → ((i : ℕ) → label i ≡ g → f i ≡ h i) → SameAt label g n d (set_to n f l) (set_to n h m)
    each_both f h v =
        record {
          left_long = length_set_to n f l ∙ same.left_long;
          right_long = length_set_to n h m ∙ same.right_long;
          entry = λ i k.
              split
              (ltb i n)
              (λ y.
              let b : i < n = ltb-true i n y in
              set_at_lem n i f l d b (rw same.left_long b) ∙ v i k ∙ sym (set_at_lem n i h m d b (rw same.right_long b)))
              (λ x. set_past n i f l d (ltb-false i n x) ∙ same.entry i k ∙ sym (set_past n i h m d (ltb-false i n x)));
        }
