-- The smallest start, and there the smallest number: the sooner of two firsts is the first of both, and there is one.
-- Assumes nothing.
use mathlib.Core.Path.{◌≡◌, refl, sym, ◌∙◌}
use mathlib.Core.Bool.{Bool, true, false, cond, ◌&&◌, ◌||◌}
use mathlib.Core.Logic.{◌⊎◌, inl, inr, ⊎_elim}
use Prim.Native.Nat.{ℕ, ◌<◌, ◌≤◌}
use native.Mathlib.Omega.{arith}
use borrow.Author.Tests.{eqb-true, eqb-false, ltb-true, ltb-false, leb-true, leb-false}
use lib.Dec.{eqb, leb, ltb}
use Rattle.slips.specs.Trouble.{Trouble, None, Found, Least}
use Rattle.slips.specs.Soonest.{sooner}

-- number k at start x comes before j at y, or is it
abbrev pub Before : ℕ → ℕ → ℕ → ℕ → Type 0
Before k x j y = (x < y) ⊎ ((x ≡ y) × (k ≤ j))

pub before_le : (k x j y : ℕ) → x ≤ y → k ≤ j → Before k x j y
before_le k x j y l m = pick (ltb x y) refl
  where
    pick : (b : Bool) → ltb x y ≡ b → Before k x j y
    pick true e = inl (ltb-true _ _ e)
    pick false e = let n = ltb-false x y e in inr (omega arith, m)

before_trans : (k x j y i z : ℕ) → Before k x j y → Before j y i z → Before k x i z
before_trans k x j y i z p q =
    ⊎_elim
    (λ l. inl (⊎_elim (λ m. omega arith) (λ m. omega (arith, m.0)) q))
    (λ l. ⊎_elim (λ m. inl (omega (arith, l.0))) (λ m. inr (l.0 ∙ m.0, omega (arith, l.1, m.1))) q) p

before_test : (k x j y : ℕ) (a b c : Bool) → ltb x y ≡ a → eqb x y ≡ b → leb k j ≡ c
    → (((a || (b && c)) ≡ true) × Before k x j y) ⊎ (((a || (b && c)) ≡ false) × Before j y k x)
before_test k x j y true b c p q r = inl (refl, inl (ltb-true _ _ p))
before_test k x j y false true true p q r = inl (refl, inr (eqb-true _ _ q, leb-true _ _ r))
before_test k x j y false true false p q r = let l = leb-false k j r in inr (refl, inr (sym (eqb-true _ _ q), omega arith))
before_test k x j y false false c p q r = let l = ltb-false x y p in let n = eqb-false x y q in inr (refl, inl (omega arith))

-- the sooner of two firsts is the first of both
module _ (P Q : ℕ → ℕ → Type 0) where
  abbrev Either : ℕ → ℕ → Type 0
  Either k x = P k x ⊎ Q k x

  sooner_both : (k x j y : ℕ) → Least P (Found k x) → Least Q (Found j y) → (b : Bool)
      → ((b ≡ true) × Before k x j y) ⊎ ((b ≡ false) × Before j y k x) → Least Either (cond b (Found k x) (Found j y))
  sooner_both k x j y f g b =
      ⊎_elim
      (λ t. rw t.0 (inl f.0, λ i z. ⊎_elim (λ p. f.1 i z p) (λ q. before_trans k x j y i z t.1 (g.1 i z q))))
      (λ t. rw t.0 (inr g.0, λ i z. ⊎_elim (λ p. before_trans j y k x i z t.1 (f.1 i z p)) (λ q. g.1 i z q)))

  pub least_sooner : (t u : Trouble) → Least P t → Least Q u → Least Either (sooner t u)
  least_sooner None None f g = λ k x. ⊎_elim (f k x) (g k x)
  least_sooner None (Found j y) f g = (inr g.0, λ i z. ⊎_elim (λ p. absurd (f i z p)) (g.1 i z))
  least_sooner (Found k x) None f g = (inl f.0, λ i z. ⊎_elim (f.1 i z) (λ q. absurd (g i z q)))
  least_sooner (Found k x) (Found j y) f g = sooner_both k x j y f g _ (before_test k x j y (ltb x y) (eqb x y) (leb k j) refl refl refl)

  -- what holds of the same troubles has the same first
  pub least_same : ((k x : ℕ) → P k x → Q k x) → ((k x : ℕ) → Q k x → P k x) → (t : Trouble) → Least P t → Least Q t
  least_same to from None f = λ k x q. f k x (from k x q)
  least_same to from (Found k x) f = (to k x f.0, λ i z q. f.1 i z (from i z q))

-- there is one first
pub one_least : (P : ℕ → ℕ → Type 0) (t u : Trouble) → Least P t → Least P u → t ≡ u
one_least P None None f g = refl
one_least P None (Found j y) f g = absurd (f j y g.0)
one_least P (Found k x) None f g = absurd (g k x f.0)
one_least P (Found k x) (Found j y) f g =
    let a = f.1 j y g.0 in
    let b = g.1 k x f.0 in
    let e : (x ≡ y) × (k ≡ j) =
    ⊎_elim
    (λ l. absurd (⊎_elim (λ m. omega arith) (λ m. omega (arith, m.0)) b))
    (λ l. ⊎_elim (λ m. absurd (omega (arith, l.0))) (λ m. (l.0, omega (arith, l.1, m.1))) b) a in
    rw (e.0, e.1)
