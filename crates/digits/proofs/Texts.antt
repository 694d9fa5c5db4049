-- Texts put in a buffer, one before the other. Assumes nothing.
use mathlib.Core.Path.{◌≡◌, refl, sym, ap, ◌∙◌, subst}
use mathlib.Core.List.{List, [], ◌∷◌, ◌++◌, append_assoc, append-nil}
use Prim.Native.Nat.{ℕ, suc, ◌+◌, ◌≤◌, ◌<◌}
use native.Mathlib.Nat.{add_assoc, add-zero, add-suc, suc-add}
use native.Mathlib.Omega.{arith}
use lib.ListN.{length, take, drop, set, length-append, length-drop, drop_of_length-le}
use lib.Seq.{sets, set_comm, drop-append_seam, take_all, length-take-le}
use Rattle.fields.specs.Written.{Wrote}
use Rattle.fields.proofs.Writing.{wrote_length, splice_is}
use Rattle.digits.specs.Text.{Said}

-- a store in front of others may come before them or behind
set_sets : (vs l : List ℕ) (i j a : ℕ) → i < j → set (sets l j vs) i a ≡ sets (set l i a) j vs
set_sets [] l i j a h = refl
set_sets (v ∷ vs) l i j a h =
    set_sets vs (set l j v) i (suc j) a (omega arith) ∙ ap (λ (t : List ℕ). sets t (suc j) vs) (set_comm l j i v a (λ e. omega arith))

-- a byte before a text
pub byte_before : {i : ℕ} {bs x y : List ℕ} (g : ℕ) → Wrote (suc i) bs x y → Wrote i (g ∷ bs) x (set y i g)
byte_before {i} {bs} {x} g w = record { is = ap (λ (t : List ℕ). set t i g) w.is ∙ set_sets bs x i (suc i) g (omega arith) }

-- texts stored the last first
sets_before : (a b x : List ℕ) (i : ℕ) → sets (sets x (i + length a) b) i a ≡ sets x i (a ++ b)
sets_before [] b x i = rw add-zero
sets_before (c ∷ a) b x i =
    let e : i + length (c ∷ a) ≡ suc i + length a = add-suc i (length a) ∙ sym (suc-add i (length a)) in
    ap (λ (t : List ℕ). sets t (suc i) a) (set_sets b x i (i + length (c ∷ a)) c (omega arith) ∙ ap (λ (j : ℕ). sets (set x i c) j b) e) ∙ sets_before a b (set x i c) (suc i)

-- one text before another is one text
pub before : {i j e : ℕ} {a b x y z : List ℕ} → Said j b x y e → Said i a y z j → Said i (a ++ b) x z e
before {i} {j} {e} {a} {b} {x} {y} {z} s t =
    let w : y ≡ sets x (i + length a) b = s.wrote.is ∙ ap (λ (k : ℕ). sets x k b) t.ends in
    record {
      wrote = record { is = t.wrote.is ∙ ap (λ (l : List ℕ). sets l i a) w ∙ sets_before a b x i };
      ends = s.ends ∙ rw (t.ends, length-append, add_assoc);
      inside = omega (arith, s.inside, wrote_length t.wrote);
    }

pub said_same : {at e : ℕ} {a b x y : List ℕ} → a ≡ b → Said at a x y e → Said at b x y e
said_same {at} {e} {a} {b} {x} {y} q s = subst (λ (t : List ℕ). Said at t x y e) q s

-- three and four of them, the last first
pub three : {g h i e : ℕ} {a b c x y z u : List ℕ} → Said i c x y e → Said h b y z i → Said g a z u h → Said g (a ++ b ++ c) x u e
three {a = a} {b} {c} s t r = said_same (sym (append_assoc a b c)) (before (before s t) r)

pub four : {f g h i e : ℕ} {a b c d x y z u v : List ℕ} → Said i d x y e → Said h c y z i → Said g b z u h → Said f a u v g → Said f (a ++ b ++ c ++ d) x v e
four {a = a} {b} {c} {d} s t r q = said_same (sym (append_assoc (a ++ b) c d)) (three (before s t) r q)

-- four, two of them by themselves
pub message : {f g h i e : ℕ} {a b c d x y z u v : List ℕ} → Said i d x y e → Said h c y z i → Said g b z u h → Said f a u v g → Said f (a ++ (b ++ c) ++ d) x v e
message {a = a} {b} {c} {d} s t r q = said_same (ap (λ (l : List ℕ). l ++ d) (append_assoc a b c)) (four s t r q)

-- how far before its end a text starts
pub within : {at e : ℕ} {bs x y : List ℕ} (n : ℕ) → Said at bs x y e → length bs ≤ n → Said at bs x y e × (e ≤ at + n)
within n s h = (s, omega (arith, s.ends))

-- a text at the buffer's end is what stands there from its start on
pub said_drop : {at e : ℕ} {bs x y : List ℕ} → Said at bs x y e → e ≡ length x → drop at y ≡ bs
said_drop {at} {e} {bs} {x} {y} s q =
    let h : at + length bs ≤ length x = omega (arith, s.ends) in
    let n : drop (at + length bs) x ≡ [] = drop_of_length-le x {i = at + length bs} (omega (arith, s.ends)) in
    let l : length (take at x) ≡ at = length-take-le at x (omega (arith, s.ends)) in
    let w : y ≡ take at x ++ bs = s.wrote.is ∙ splice_is at bs x h ∙ ap (λ (t : List ℕ). take at x ++ (bs ++ t)) n ∙ ap (λ (t : List ℕ). take at x ++ t) (append-nil bs) in
    ap (drop at) w ∙ ap (λ (k : ℕ). drop k (take at x ++ bs)) (sym l) ∙ drop-append_seam (take at x) bs

-- so is the part of the buffer that starts there and has what is left of its length
pub said_part : {at e : ℕ} {bs x y : List ℕ} (m : ℕ) → Said at bs x y e → e ≡ length x → length x ≤ at + m → take m (drop at y) ≡ bs
said_part {at} {e} {bs} {x} {y} m s q h =
    let d = said_drop s q in
    take_all m (drop at y) (omega (arith, length-drop at y, wrote_length s.wrote)) ∙ d
