-- Where a rule does not hold the place named is that of the first faulty field. Assumes nothing.
use mathlib.Core.Path.{◌≡◌, refl, sym, ◌∙◌}
use mathlib.Core.Bool.{Bool, true, false, cond, ◌&&◌, true≢false}
use mathlib.Core.Logic.{◌↔◌, inl, inr, ⊎_elim}
use mathlib.Core.List.{List, [], ◌∷◌}
use Prim.Native.Nat.{ℕ, suc, ◌≤◌}
use native.Mathlib.Omega.{arith}
use lib.Dec.{leb}
use borrow.Author.Tests.{leb-true}
use Rattle.fields.specs.Rules.{Rule, each_right}
use Rattle.fields.specs.Wrong.{wrong_field, Faulty, FirstField}
use Rattle.fields.proofs.Offsets.{rising, offsets, neither}
use Rattle.fields.proofs.Zeros.{both_true}

-- rules that rise lie behind where they rise from
behind : (rs : List Rule) (m : ℕ) → rising m (offsets rs) ≡ true → (i : ℕ) → Faulty i rs → m ≤ i
behind [] m w i h = absurd h
behind (r ∷ rs) m w i (inl h) = let l : m ≤ r.at = leb-true _ _ (both_true _ _ w).0 in omega (arith, h.0)
behind (r ∷ rs) m w i (inr h) =
    let p = both_true (leb m r.at) (rising (suc r.at) (offsets rs)) w in
    let l : m ≤ r.at = leb-true _ _ p.0 in
    let k = behind rs (suc r.at) p.1 i h in
    omega arith

first_field : (rs : List Rule) (m : ℕ) → rising m (offsets rs) ≡ true → each_right rs ≡ false → FirstField rs (wrong_field rs)
first_field [] m w e = absurd (true≢false e)
first_field (r ∷ rs) m w e =
    let p = both_true (leb m r.at) (rising (suc r.at) (offsets rs)) w in
    pick r.right refl e (behind rs (suc r.at) p.1) (first_field rs (suc r.at) p.1)
  where
    pick : (t : Bool) → r.right ≡ t → (t && each_right rs) ≡ false
        → ((i : ℕ) → Faulty i rs → suc r.at ≤ i) → (each_right rs ≡ false → FirstField rs (wrong_field rs))
        → FirstField (r ∷ rs) (cond t (wrong_field rs) r.at)
    pick true q e a i =
        let f = i e in
        record {
          faulty = inr f.faulty;
          before = λ j l. ⊎_elim
              (λ (h : (r.at ≡ j) × (r.right ≡ false)). absurd (true≢false (sym q ∙ h.1)))
              (λ (h : Faulty j rs). f.before j l h);
        }
    pick false q e a i =
        record {
          faulty = inl (refl, q);
          before = λ j l. ⊎_elim (λ (h : (r.at ≡ j) × (r.right ≡ false)). omega (arith, h.0)) (λ (h : Faulty j rs). let k = a j h in omega arith);
        }

right_none : (rs : List Rule) → each_right rs ≡ true → (i : ℕ) → Faulty i rs → ⊥
right_none [] e i h = h
right_none (r ∷ rs) e i (inl h) = true≢false (sym (both_true r.right (each_right rs) e).0 ∙ h.1)
right_none (r ∷ rs) e i (inr h) = right_none rs (both_true r.right (each_right rs) e).1 i h

one_field : (rs : List Rule) (p q : ℕ) → FirstField rs p → FirstField rs q → p ≡ q
one_field rs p q f h = neither (λ l. h.before p l f.faulty) (λ l. f.before q l h.faulty)

-- the theorem: a rule does not hold and a field is named exactly where that is the first faulty field
pub field_exact : (rs : List Rule) (p : ℕ) → rising 0 (offsets rs) ≡ true → ((each_right rs ≡ false) × (wrong_field rs ≡ p)) ↔ FirstField rs p
field_exact rs p w = (λ c. rw (← c.1) (first_field rs 0 w c.0), λ f. go f (each_right rs) refl)
  where
    go : FirstField rs p → (t : Bool) → each_right rs ≡ t → (each_right rs ≡ false) × (wrong_field rs ≡ p)
    go f true e = absurd (right_none rs e p f.faulty)
    go f false e = (e, one_field rs (wrong_field rs) p (first_field rs 0 w e) f)
