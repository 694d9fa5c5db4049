-- Texts compared byte for byte. Assumes nothing.
use mathlib.Core.Path.{◌≡◌, refl, sym, ap₂, ◌∙◌, subst}
use mathlib.Core.Bool.{Bool, true, false, ◌&&◌, false≢true}
use mathlib.Core.List.{List, [], ◌∷◌}
use Prim.Native.Nat.{ℕ}
use borrow.Author.Tests.{eqb-true, eq-eqb}
use lib.Dec.{eqb}
use Rattle.asc_lines.specs.Reading.{same}

pub same_refl : (s : List ℕ) → same s s ≡ true
unfolding same
same_refl [] = refl
same_refl (x ∷ s) = rw (eq-eqb x x refl) (same_refl s)

pub same_eq : (s t : List ℕ) → same s t ≡ true → s ≡ t
unfolding same
same_eq [] [] e = refl
same_eq [] (y ∷ t) e = absurd (false≢true e)
same_eq (x ∷ s) [] e = absurd (false≢true e)
same_eq (x ∷ s) (y ∷ t) e = both (eqb x y) refl e (same_eq s t)
  where
    both : (b : Bool) → eqb x y ≡ b → (b && same s t) ≡ true → (same s t ≡ true → s ≡ t) → x ∷ s ≡ y ∷ t
    both true p q h = ap₂ (λ (a : ℕ) (l : List ℕ). a ∷ l) (eqb-true x y p) (h q)
    both false p q h = absurd (false≢true q)

-- a test that tells texts apart
pub same_by : (s t : List ℕ) {b : Bool} → (b ≡ true → s ≡ t) → (s ≡ t → b ≡ true) → b ≡ same s t
same_by s t {b} f g = cases b (same s t) refl refl
  where
    cases : (x y : Bool) → b ≡ x → same s t ≡ y → x ≡ y
    cases true true p q = refl
    cases true false p q = sym (subst (λ (u : List ℕ). same s u ≡ true) (f p) (same_refl s)) ∙ q
    cases false true p q = sym p ∙ g (same_eq s t q)
    cases false false p q = refl
