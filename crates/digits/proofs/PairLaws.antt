-- Pairs of digits, one behind the other, and read back. Assumes nothing.
use mathlib.Core.Path.{◌≡◌, refl, sym, ap, ap₂, ◌∙◌, subst}
use mathlib.Core.List.{List, [], ◌∷◌, ◌++◌, append_assoc, append-nil}
use Prim.Native.Nat.{ℕ, zero, suc, ◌+◌, ◌-◌, ◌*◌, ◌≤◌, ◌<◌}
use native.Mathlib.Nat.{add-zero}
use native.Mathlib.Omega.{arith}
use lib.ListN.{length, take, drop, get_or, set, replicate, length-append, length-replicate}
use lib.Seq.{take-suc, length-take-le, drop-drop, drop-append-add, split_at, set_at}
use Rattle.std.proofs.lemmas.List.{nil_from_length}
use Rattle.digits.specs.Digits.{fixed}
use Rattle.digits.specs.Reading.{number}
use Rattle.digits.specs.Text.{Said}
use Rattle.digits.specs.declared.reading.Number.{Number}
use Rattle.digits.proofs.Texts.{before, within}
use Rattle.digits.proofs.Digits.{length_fixed, number_fixed, number_low}
use Rattle.digits.specs.Pairs.{pairs, bytes_in, filled}

pub pairs_append : (a b : List ℕ) → pairs (a ++ b) ≡ pairs a ++ pairs b
unfolding pairs
pairs_append [] b = refl
pairs_append (x ∷ a) b = ap (λ (t : List ℕ). 32 ∷ t) (ap (λ (t : List ℕ). fixed 16 2 x ++ t) (pairs_append a b) ∙ sym (append_assoc (fixed 16 2 x) (pairs a) (pairs b)))

pub length_pairs : (a : List ℕ) → length (pairs a) ≡ 3 * length a
unfolding pairs
length_pairs [] = refl
length_pairs (x ∷ a) = let l = length-append (fixed 16 2 x) (pairs a) in omega (arith, l, length_fixed 16 2 x, length_pairs a)

-- one pair
pub one_pair : (b : ℕ) {at e : ℕ} {x y : List ℕ} → Said at ((32 ∷ []) ++ fixed 16 2 b) x y e → Said at (pairs (b ∷ [])) x y e
unfolding pairs
one_pair b {at} {e} {x} {y} s = subst (λ (t : List ℕ). Said at (32 ∷ t) x y e) (sym (append-nil (fixed 16 2 b))) s

-- the pairs of all the bytes but those that are left stand in the buffer
pub record Pairing (bytes : List ℕ) (end : ℕ) (x y : List ℕ) (here : ℕ) (left : List ℕ) : Type 0 where
  pub done : List ℕ
  pub all : left ++ done ≡ bytes
  pub put : Said here (pairs done) x y end

module _ (bytes : List ℕ) (end : ℕ) (x : List ℕ) (fits : 3 * length bytes ≤ end) (inside : end ≤ length x) where
  pub pairing_none : Pairing bytes end x x end bytes
  unfolding pairs
  pairing_none = record { done = []; all = append-nil bytes; put = record { wrote = record { is = refl }; ends = sym (add-zero end); inside = inside } }

  module _ {y : List ℕ} {here : ℕ} {left : List ℕ} (p : Pairing bytes end x y here left) where
    -- three places for the next byte
    pub pairing_room : (b : ℕ) (more : List ℕ) → left ≡ more ++ (b ∷ []) → (3 ≤ here) × (here ≤ length y)
    pairing_room b more q =
        let l : length left + length p.done ≡ length bytes = sym (length-append left p.done) ∙ ap length p.all in
        let m : length left ≡ length more + 1 = ap length q ∙ length-append more (b ∷ []) in
        (omega (arith, p.put.ends, length_pairs p.done), omega (arith, p.put.ends, p.put.inside))

    pub pairing_more : (b : ℕ) {more z : List ℕ} {e : ℕ} → left ≡ more ++ (b ∷ []) → Said e (pairs (b ∷ [])) y z here → Pairing bytes end x z e more
    pairing_more b {more} {z} {e} q s =
        record {
          done = b ∷ p.done;
          all = sym (append_assoc more (b ∷ []) p.done) ∙ ap (λ (v : List ℕ). v ++ p.done) (sym q) ∙ p.all;
          put = subst (λ (v : List ℕ). Said e v x z end) (sym (pairs_append (b ∷ []) p.done)) (before p.put s);
        }

    pub pairing_done : length left ≡ 0 → Said here (pairs bytes) x y end × (end ≤ here + 3 * length bytes)
    pairing_done h =
        let r : p.done ≡ bytes = ap (λ (v : List ℕ). v ++ p.done) (sym (nil_from_length left h)) ∙ p.all in
        within (3 * length bytes) (subst (λ (v : List ℕ). Said here (pairs v) x y end) r p.put) (omega (arith, length_pairs bytes))

pub length_bytes : (k : ℕ) (s : List ℕ) (at : ℕ) → length (bytes_in k s at) ≡ k
unfolding bytes_in
length_bytes zero s at = refl
length_bytes (suc k) s at = length-append (bytes_in k s at) ((number 16 2 s (at + 3 * k + 1)).value ∷ []) ∙ rw (length_bytes k s at) (omega arith)

pub length_filled : (k : ℕ) (s : List ℕ) (at : ℕ) → k ≤ 8 → length (filled k s at) ≡ 8
unfolding filled
length_filled k s at h = length-append (bytes_in k s at) (replicate (8 - k) 0) ∙ rw (length_bytes, length-replicate) (omega arith)

-- a byte fits
pub byte_low : (s : List ℕ) (at : ℕ) {n : Number} → n ≡ number 16 2 s at → n.value < 256
byte_low s at e = subst (λ (x : Number). x.value < 256) (sym e) (number_low 16 2 s at (omega arith))

-- the array, a byte further
pub filled_more : (i : ℕ) (s : List ℕ) (at : ℕ) (out : List ℕ) (n : Number) → out ≡ filled i s at → i < 8 → n ≡ number 16 2 s (at + 3 * i + 1)
    → set out i n.value ≡ filled (i + 1) s at
unfolding filled bytes_in
filled_more i s at out n e h q =
    let a : i + 1 ≡ suc i = omega arith in
    let z : 8 - i ≡ suc (8 - suc i) = omega arith in
    let y : out ≡ bytes_in i s at ++ (0 ∷ replicate (8 - suc i) 0) = e ∙ ap (λ (m : ℕ). bytes_in i s at ++ replicate m 0) z in
    rw (y, a)
    (set_at (bytes_in i s at) 0 (replicate (8 - suc i) 0) n.value i (length_bytes i s at)
    ∙ ap (λ (x : Number). bytes_in i s at ++ (x.value ∷ replicate (8 - suc i) 0)) q
    ∙ sym (append_assoc (bytes_in i s at) ((number 16 2 s (at + 3 * i + 1)).value ∷ []) (replicate (8 - suc i) 0)))

-- bytes are read back from their pairs
module _ (bs r s : List ℕ) (at : ℕ) (stands : drop at s ≡ pairs bs ++ r) (small : (i : ℕ) → get_or bs i 0 < 256) where
  behind : (k : ℕ) → k < length bs → drop (at + 3 * k + 1) s ≡ fixed 16 2 (get_or bs k 0) ++ (pairs (drop (suc k) bs) ++ r)
  unfolding pairs
  behind k h =
      let l : length (pairs (take k bs)) ≡ 3 * k = length_pairs (take k bs) ∙ ap (λ (j : ℕ). 3 * j) (length-take-le k bs (omega arith)) in
      let p : pairs bs ≡ pairs (take k bs) ++ (32 ∷ (fixed 16 2 (get_or bs k 0) ++ pairs (drop (suc k) bs))) = ap pairs (split_at bs k 0 h) ∙ pairs_append (take k bs) (get_or bs k 0 ∷ drop (suc k) bs) in
      let q : drop at s ≡ pairs (take k bs) ++ ((32 ∷ (fixed 16 2 (get_or bs k 0) ++ pairs (drop (suc k) bs))) ++ r) = stands ∙ ap (λ (t : List ℕ). t ++ r) p ∙ append_assoc (pairs (take k bs)) (32 ∷ (fixed 16 2 (get_or bs k 0) ++ pairs (drop (suc k) bs))) r in
      let d : at + 3 * k + 1 ≡ at + (length (pairs (take k bs)) + 1) = omega arith in
      ap (λ (j : ℕ). drop j s) d ∙ sym (drop-drop (length (pairs (take k bs)) + 1) at s) ∙ ap (drop (length (pairs (take k bs)) + 1)) q
      ∙ drop-append-add (pairs (take k bs)) _ 1 ∙ append_assoc (fixed 16 2 (get_or bs k 0)) (pairs (drop (suc k) bs)) r

  pub bytes_back : (k : ℕ) → k ≤ length bs → bytes_in k s at ≡ take k bs
  unfolding bytes_in
  bytes_back zero h = refl
  bytes_back (suc k) h =
      let n : number 16 2 s (at + 3 * k + 1) ≡ record { value = get_or bs k 0; end = at + 3 * k + 1 + 2 } = number_fixed 16 (omega arith) (omega arith) 2 (get_or bs k 0) (at + 3 * k + 1) s _ (behind k (omega arith)) (small k) in
      ap₂ (λ (t : List ℕ) (x : Number). t ++ (x.value ∷ [])) (bytes_back k (omega arith)) n ∙ sym (take-suc bs k 0 (omega arith))

pub filled_done : (i k : ℕ) (s : List ℕ) (at : ℕ) {out : List ℕ} → out ≡ filled i s at → i ≡ k → out ≡ filled k s at
filled_done i k s at {out} e n = subst (λ (j : ℕ). out ≡ filled j s at) n e
