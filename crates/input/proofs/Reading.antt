-- What the loop of reading knows: the answers so far, put in front of those to come, give what those to come give from
-- here. Assumes nothing.
use Prim.Native.Nat.{ℕ, zero, suc, ◌+◌, ◌-◌, ◌≤◌, min}
use mathlib.Core.Path.{◌≡◌, refl, sym, ap, ◌∙◌}
use mathlib.Core.List.{List, [], ◌∷◌}
use native.Mathlib.Omega.{arith}
use lib.IntN.{ℤ, pos, negsuc}
use lib.ListN.{length}
use Rattle.input.specs.Taken.{Input, Bytes, Failed, input_of, Taken}

pub record Reading (x y : List ℕ) (n : ℕ) : Type 0 where
  pub few : n ≤ length x
  pub long : length y ≡ length x
  pub before : List ℤ → List ℤ
  pub same : (answers : List ℤ) → input_of (length x) 0 (before answers) ≡ input_of (length x) n answers

pub reading_none : (x : List ℕ) → Reading x x 0
reading_none x = record { few = omega arith; long = refl; before = λ answers. answers; same = λ answers. refl }

module _ (x y : List ℕ) (n : ℕ) (w : Reading x y n) where
  pub read_full : length y ≤ n → Taken (Bytes n) x y
  read_full h =
      let e : n ≡ length x = omega (arith, w.few, w.long) in
      record { answers = w.before []; told = ap Bytes e ∙ sym (w.same []); within = omega (arith, w.few, w.long); long = w.long }

  -- a read was lent what is left of the buffer, and z is the buffer afterwards
  module _ {z : List ℕ} (l : length z ≡ length y) where
    -- an answer below 0 stands for a read that failed
    pub read_failed : Taken Failed x z
    read_failed =
        record { answers = w.before (negsuc 0 ∷ []); told = sym (w.same (negsuc 0 ∷ [])); within = tt; long = l ∙ w.long }

    pub read_ended : Taken (Bytes n) x z
    read_ended =
        record { answers = w.before (pos 0 ∷ []); told = sym (w.same (pos 0 ∷ [])); within = omega (arith, w.few, w.long, l); long = l ∙ w.long }

    pub read_more : (m : ℕ) → n + m ≤ length y → (m ≡ 0 → ⊥) → Reading x z (n + m)
    read_more zero h q = absurd (q refl)
    read_more (suc k) h q =
        let u : min (suc k) (length x - n) ≡ suc k = omega (arith, h, w.long) in
        record {
          few = omega (arith, h, w.long);
          long = l ∙ w.long;
          before = λ answers. w.before (pos (suc k) ∷ answers);
          same = λ answers. w.same (pos (suc k) ∷ answers) ∙ rw u;
        }

-- what the reads answer determines the input
pub one_input : {r r' : Input} {x y y' : List ℕ} (a : Taken r x y) (b : Taken r' x y') → a.answers ≡ b.answers → r ≡ r'
one_input {x = x} a b e = a.told ∙ ap (input_of (length x) 0) e ∙ sym b.told
