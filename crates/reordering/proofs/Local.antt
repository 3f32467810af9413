-- Events of two groups commute where each reads and changes only its own group's part of the state. Assumes nothing.
use mathlib.Core.Path.{◌≡◌, refl, sym}
use Prim.Native.Nat.{ℕ}
use native.Mathlib.Omega.{arith}
use native.Mathlib.Decide.{ℕ_discrete}
use Rattle.reordering.specs.Order.{Kind, time, group, Apart}
use Rattle.reordering.specs.Machine.{Commute, Local}

pub group_inj : {g h : ℕ} → group g ≡ group h → g ≡ h
group_inj p = cc

pub time_group : {g : ℕ} → time ≡ group g → ⊥
time_group p = let z : ◌≡◌ {A = ℕ} 0 1 = cc in omega arith

module _
    {State Event Answer : Type 0}
    {kind : Event → Kind}
    {free : State → Event → Answer × State}
    {Good : State → Type 0}
    {Agree : ℕ → State → State → Type 0}
    (l : Local kind free Good Agree)
  where
    commute_groups : (s : State) (a b : Event) (g h : ℕ) → kind a ≡ group g → kind b ≡ group h → (g ≡ h → ⊥) → Good s → Commute free s a b
    commute_groups s a b g h p q n k =
        record {
          first = sym (l.reads g s sb a p k kb ub);
          second = sym (l.reads h s sa b q k ka ua);
          state = l.whole sab sba (l.keeps sa b ka) (l.keeps sb a kb) (λ i. agree i (ℕ_discrete g i) (ℕ_discrete h i));
        }
      where
        m : h ≡ g → ⊥
        m e = n (sym e)

        sa : State
        sa = (free s a).1

        sb : State
        sb = (free s b).1

        sab : State
        sab = (free sa b).1

        sba : State
        sba = (free sb a).1

        ka : Good sa
        ka = l.keeps s a k

        kb : Good sb
        kb = l.keeps s b k

        ua : Agree h s sa
        ua = l.leaves h g s a p n k

        ub : Agree g s sb
        ub = l.leaves g h s b q m k

        in_g : Agree g sab sba
        in_g = l.agree_trans g sab sa sba (l.agree_sym g sa sab (l.leaves g h sa b q m ka)) (l.writes g s sb a p k kb ub)

        in_h : Agree h sab sba
        in_h = l.agree_trans h sab sb sba (l.agree_sym h sb sab (l.writes h s sa b q k ka ua)) (l.leaves h g sb a p n kb)

        agree : (i : ℕ) → Dec (g ≡ i) → Dec (h ≡ i) → Agree i sab sba
        agree i (yes e) d = rw (← e) in_g
        agree i (no x) (yes e) = rw (← e) in_h
        agree i (no x) (no y) =
            l.agree_trans i sab s sba
            (l.agree_sym i s sab (l.agree_trans i s sa sab (l.leaves i g s a p x k) (l.leaves i h sa b q y ka)))
            (l.agree_trans i s sb sba (l.leaves i h s b q y k) (l.leaves i g sb a p x kb))

    -- the law `commute` of `Laws`
    pub commute : (s : State) (a b : Event) → Good s → Apart (kind a) (kind b) → Commute free s a b
    commute s a b k x = by_kinds (kind a) (kind b) refl refl x
      where
        by_kinds : (i j : Kind) → kind a ≡ i → kind b ≡ j → Apart i j → Commute free s a b
        by_kinds time j p q n = absurd n
        by_kinds (group g) time p q n = absurd n
        by_kinds (group g) (group h) p q n = commute_groups s a b g h p q n k
