-- The laws of every table of slots: what is written is read, and what was read is written. Assumes nothing.
use mathlib.Core.Path.{◌≡◌, refl, sym, ap, ap₂, ◌∙◌}
use mathlib.Core.Bool.{Bool, true, ◌&&◌, and_assoc}
use mathlib.Core.Logic.{◌↔◌}
use mathlib.Core.List.{List, [], ◌∷◌, ◌++◌, append_assoc, append-nil}
use Prim.Native.Nat.{ℕ, ◌+◌, ◌*◌, ◌≤◌}
use native.Mathlib.Nat.{le_of_eq, add_assoc}
use native.Mathlib.Omega.{arith}
use lib.ListN.{length, drop, length-append, length-replicate, take-append-drop, drop_of_length-le}
use lib.Seq.{drop-drop, drop-append_seam, take_at}
use borrow.Author.Tests.{eq-eqb, eqb-true}
use Rattle.fields.specs.Numbers.{Bytes, part, num, zeros}
use Rattle.fields.specs.Digits.{array}
use Rattle.fields.specs.Rules.{blank, Rule, each_right}
use Rattle.fields.specs.Slots.{Slot, number, numbers, reserved, derived, Slots, end, rest, ◌▸◌, width, total, Closed, slot_bytes, bytes_of, value_of, values_of, value_in, values_in, FitsSlot, Fits, Fill, CleanSlot, Clean, gaps_of, derived_of}
use Rattle.fields.proofs.Numbers.{length_le, num_lt, le_num}
use Rattle.fields.proofs.Reading as reading
use Rattle.fields.proofs.Reading.{num_at}
use Rattle.fields.proofs.Elements.{length_array, length_nums, nums_fit, nums_array, array_nums}
use Rattle.fields.proofs.Zeros.{both_true, zero_all}

module _ {A : Type 0} where
  pub slot_length : (s : Slot A) (r : A) → length (slot_bytes s r) ≡ width s
  slot_length (number w g) r = length_le w (g r)
  slot_length (numbers w n g) r = length_array w n (g r)
  slot_length (reserved n) r = length-replicate n 0
  slot_length (derived w g) r = length_le w (g r)

  -- a record's bytes fill its slots
  pub filled : (ss : Slots A) (r : A) (f : List ℕ) → Fill ss (f ++ bytes_of ss r) (length f)
  unfolding bytes_of
  filled end r f = ap length (append-nil f)
  filled (rest g) r f = simp length-append (omega arith)
  filled (s ▸ ss) r f =
      let e : length (f ++ slot_bytes s r) ≡ length f + width s = rw (length-append, slot_length s r) in
      rw (← append_assoc f (slot_bytes s r) (bytes_of ss r), ← e) (filled ss r (f ++ slot_bytes s r))

  filled_long : (ss : Slots A) (b : List ℕ) (at : ℕ) → Fill ss b at → at ≤ length b
  filled_long end b at h = le_of_eq (sym h)
  filled_long (rest g) b at h = h
  filled_long (s ▸ ss) b at h = let l = filled_long ss b (at + width s) h in omega arith

  pub closed_fill : (ss : Slots A) (b : List ℕ) (at : ℕ) → Closed ss → Fill ss b at ↔ (length b ≡ at + total ss)
  closed_fill end b at c = (λ (e : length b ≡ at). omega arith, λ (e : length b ≡ at + 0). omega arith)
  closed_fill (rest g) b at c = absurd c
  closed_fill (s ▸ ss) b at c = rw (← add_assoc) (closed_fill ss b (at + width s) c)

  -- a record, written behind f and read
  slot_back : (s : Slot A) (r : A) (f z : List ℕ) → FitsSlot s r → value_in s (f ++ (slot_bytes s r ++ z)) (length f) ≡ value_of s r
  slot_back (number w g) r f z h = num_at w (g r) f z h
  slot_back (numbers w n g) r f z h = rw (← append_assoc f (array w n (g r)) z) (nums_array w f (g r) n (length f) z refl h.0 h.1)
  slot_back (reserved n) r f z h = refl
  slot_back (derived w g) r f z h = refl

  pub values_back : (ss : Slots A) (r : A) (f : List ℕ) → Fits ss r → values_in ss (f ++ bytes_of ss r) (length f) ≡ values_of ss r
  unfolding bytes_of
  values_back end r f h = refl
  values_back (rest g) r f h = drop-append_seam f (g r)
  values_back (s ▸ ss) r f h =
      let e : length (f ++ slot_bytes s r) ≡ length f + width s = rw (length-append, slot_length s r) in
      let t : values_in ss (f ++ (slot_bytes s r ++ bytes_of ss r)) (length f + width s) ≡ values_of ss r = rw (← append_assoc f (slot_bytes s r) (bytes_of ss r), ← e) (values_back ss r (f ++ slot_bytes s r) h.1) in
      λ i. (slot_back s r f (bytes_of ss r) h.0 i, t i)

  slot_clean : (s : Slot A) (r : A) (f z : List ℕ) → FitsSlot s r → CleanSlot s (f ++ (slot_bytes s r ++ z)) (length f) r
  slot_clean (number w g) r f z h = tt
  slot_clean (numbers w n g) r f z h = tt
  slot_clean (reserved n) r f z h = rw (drop-append_seam, take_at (zeros n) z n (length-replicate n 0)) (zero_all n)
  slot_clean (derived w g) r f z h = num_at w (g r) f z h

  pub clean_back : (ss : Slots A) (r : A) (f : List ℕ) → Fits ss r → Clean ss (f ++ bytes_of ss r) (length f) r
  unfolding bytes_of
  clean_back end r f h = tt
  clean_back (rest g) r f h = tt
  clean_back (s ▸ ss) r f h =
      let e : length (f ++ slot_bytes s r) ≡ length f + width s = rw (length-append, slot_length s r) in
      let t : Clean ss (f ++ (slot_bytes s r ++ bytes_of ss r)) (length f + width s) r = rw (← append_assoc f (slot_bytes s r) (bytes_of ss r), ← e) (clean_back ss r (f ++ slot_bytes s r) h.1) in
      (slot_clean s r f (bytes_of ss r) h.0, t)

  -- bytes, read and written
  module _ (b : List ℕ) (w : Bytes b) (r : A) where
    slot_forth : (s : Slot A) (at : ℕ) → at + width s ≤ length b → value_of s r ≡ value_in s b at → CleanSlot s b at r → slot_bytes s r ≡ part (width s) b at
    slot_forth (number n g) at l e c = rw e (le_num n b at w l)
    slot_forth (numbers n m g) at l e c = rw e (array_nums n b w at m l).is
    slot_forth (reserved n) at l e c = (reading.blank b n at l c).is
    slot_forth (derived n g) at l e c = rw (← c) (le_num n b at w l)

    pub bytes_forth : (ss : Slots A) (at : ℕ) → Fill ss b at → values_of ss r ≡ values_in ss b at → Clean ss b at r → bytes_of ss r ≡ drop at b
    unfolding bytes_of
    bytes_forth end at h e c = sym (drop_of_length-le b (le_of_eq h))
    bytes_forth (rest g) at h e c = e
    bytes_forth (s ▸ ss) at h e c =
        ap₂ (λ (x y : List ℕ). x ++ y) (slot_forth s at (filled_long ss b (at + width s) h) (λ i. (e i).0) c.0) (bytes_forth ss (at + width s) h (λ i. (e i).1) c.1)
        ∙ rw (← drop-drop) (take-append-drop (width s) (drop at b))

    slot_fits : (s : Slot A) (at : ℕ) → at + width s ≤ length b → value_of s r ≡ value_in s b at → CleanSlot s b at r → FitsSlot s r
    slot_fits (number n g) at l e c = rw e (num_lt n b at w l)
    slot_fits (numbers n m g) at l e c = rw e (length_nums n m b at, nums_fit n b w at m l)
    slot_fits (reserved n) at l e c = tt
    slot_fits (derived n g) at l e c = rw (← c) (num_lt n b at w l)

    pub fits_forth : (ss : Slots A) (at : ℕ) → Fill ss b at → values_of ss r ≡ values_in ss b at → Clean ss b at r → Fits ss r
    fits_forth end at h e c = tt
    fits_forth (rest g) at h e c = tt
    fits_forth (s ▸ ss) at h e c = (slot_fits s at (filled_long ss b (at + width s) h) (λ i. (e i).0) c.0, fits_forth ss (at + width s) h (λ i. (e i).1) c.1)

-- rules behind rules
pub right_append : (xs ys : List Rule) → each_right (xs ++ ys) ≡ (each_right xs && each_right ys)
right_append [] ys = refl
right_append (x ∷ xs) ys = ap (λ (b : Bool). x.right && b) (right_append xs ys) ∙ sym (and_assoc x.right (each_right xs) (each_right ys))

-- the bytes are clean exactly where the gaps are blank and what follows from the rest is right
module _ {A : Type 0} (b : List ℕ) (r : A) where
  pub rules_clean : (ss : Slots A) (at : ℕ) → blank (gaps_of ss at) b ≡ true → each_right (derived_of ss b at r) ≡ true → Clean ss b at r
  rules_clean end at z d = tt
  rules_clean (rest g) at z d = tt
  rules_clean (number w g ▸ ss) at z d = (tt, rules_clean ss (at + w) z d)
  rules_clean (numbers w n g ▸ ss) at z d = (tt, rules_clean ss (at + w * n) z d)
  rules_clean (reserved n ▸ ss) at z d = let p = both_true _ _ z in (p.0, rules_clean ss (at + n) p.1 d)
  rules_clean (derived w g ▸ ss) at z d = let p = both_true _ _ d in (eqb-true _ _ p.0, rules_clean ss (at + w) z p.1)

  pub clean_blank : (ss : Slots A) (at : ℕ) → Clean ss b at r → blank (gaps_of ss at) b ≡ true
  clean_blank end at c = refl
  clean_blank (rest g) at c = refl
  clean_blank (number w g ▸ ss) at c = clean_blank ss (at + w) c.1
  clean_blank (numbers w n g ▸ ss) at c = clean_blank ss (at + w * n) c.1
  clean_blank (reserved n ▸ ss) at c = rw c.0 (clean_blank ss (at + n) c.1)
  clean_blank (derived w g ▸ ss) at c = clean_blank ss (at + w) c.1

  pub clean_right : (ss : Slots A) (at : ℕ) → Clean ss b at r → each_right (derived_of ss b at r) ≡ true
  clean_right end at c = refl
  clean_right (rest g) at c = refl
  clean_right (number w g ▸ ss) at c = clean_right ss (at + w) c.1
  clean_right (numbers w n g ▸ ss) at c = clean_right ss (at + w * n) c.1
  clean_right (reserved n ▸ ss) at c = clean_right ss (at + n) c.1
  clean_right (derived w g ▸ ss) at c = rw (eq-eqb (num w b at) (g r) c.0) (clean_right ss (at + w) c.1)
