-- Digits over a base, once for every base: how many there are, and that reading them gives the number. Assumes nothing.
use mathlib.Core.Path.{◌≡◌, refl, sym, ap, ap₂, ◌∙◌, subst}
use mathlib.Core.Bool.{Bool, true, false, cond}
use mathlib.Core.List.{List, [], ◌∷◌, ◌++◌, append_assoc}
use Prim.Native.Nat.{ℕ, zero, suc, ◌+◌, ◌*◌, ◌-◌, ◌/◌, ◌%◌, ◌^◌, ◌≤◌, ◌<◌}
use native.Mathlib.Nat.{pow-zero, pow-suc, pow-succ', one-le-pow, mul-one, one-mul, zero-mul, zero-add, add-zero, add_assoc, mul_assoc, add-mul, suc-add, mod-lt, mod-eq_of_lt, div-one, mod-one, div-div-eq-div-mul, pow-le-pow_right, lt_of_not-le, le-div_iff_mul-le, div-lt_iff_lt-mul}
use native.Mathlib.Omega.{arith}
use borrow.Author.Tests.{ltb-true, ltb-false, lt-ltb, le-ltb}
use lib.Arith.{mod-mul, digits_lt}
use lib.ListN.{length, length-append, get_or, drop}
use lib.Dec.{ltb}
use Rattle.digits.specs.Digits.{glyph, fixed, fewest}
use Rattle.digits.specs.Reading.{digit, scan, number}
use Rattle.digits.proofs.Glyphs.{digit_glyph, glyph_zero, glyph_small}

-- n has k digits over the base b
abbrev pub Places : ℕ → ℕ → ℕ → Type 0
Places b n k = (1 ≤ k) × (n < b ^ k) × (1 < k → b ^ (k - 1) ≤ n)

pub length_fixed : (b k n : ℕ) → length (fixed b k n) ≡ k
unfolding fixed
length_fixed b zero n = refl
length_fixed b (suc k) n = length-append (fixed b k (n / b)) (glyph (n % b) ∷ []) ∙ rw (length_fixed b k (n / b)) (omega arith)

power : (b n i j : ℕ) → i ≡ j → b ^ i ≤ n → b ^ j ≤ n
power b n i j e h = subst (λ (x : ℕ). b ^ x ≤ n) e h

first_power : (b : ℕ) → b ^ 1 ≡ b
first_power b = pow-suc b 0 ∙ rw (pow-zero, one-mul)

-- a digit in front of a text, or none: past the text's end none is read, since 0 is no digit's code
pub scan_stops : (b k v i : ℕ) (t : List ℕ) → b ≤ digit (get_or t 0 0) → scan b k v i t ≡ record { value = v; end = i }
unfolding scan
scan_stops b zero v i t h = refl
scan_stops b (suc k) v i [] h = refl
scan_stops b (suc k) v i (c ∷ t) h = rw (le-ltb (digit c) b h)

pub scan_goes : (b k v i : ℕ) (t : List ℕ) → b ≤ 16 → digit (get_or t 0 0) < b → scan b (suc k) v i t ≡ scan b k (v * b + digit (get_or t 0 0)) (i + 1) (drop 1 t)
unfolding scan digit
scan_goes b k v i [] m h = absurd (omega arith)
scan_goes b k v i (c ∷ t) m h = rw (lt-ltb (digit c) b h)

module _ (b : ℕ) (two : 1 < b) where
  -- the first of k + 1 digits
  pub fixed_front : (k n : ℕ) → fixed b (suc k) n ≡ glyph (n / b ^ k % b) ∷ fixed b k n
  unfolding fixed
  fixed_front zero n = rw (pow-zero, div-one)
  fixed_front (suc k) n =
      ap (λ (t : List ℕ). t ++ (glyph (n % b) ∷ [])) (fixed_front k (n / b)) ∙ rw (div-div-eq-div-mul, ← pow-succ')

  -- a number of k digits, where f are allowed, is written with k
  pub fewest_fixed : (f k n : ℕ) → Places b n k → k ≤ f → fixed b k n ≡ fewest b f n
  unfolding fixed fewest
  fewest_fixed f zero n p h = absurd (omega (arith, p.0))
  fewest_fixed zero (suc k) n p h = absurd (omega arith)
  fewest_fixed (suc f) (suc zero) n p h =
      let v : n < b = subst (λ (x : ℕ). n < x) (first_power b) p.1 in
      rw (lt-ltb n b v, mod-eq_of_lt v)
  fewest_fixed (suc f) (suc (suc k)) n p h =
      let u : n / b < b ^ suc k = (div-lt_iff_lt-mul {k = b} (omega arith)).1 (subst (λ (x : ℕ). n < x) (pow-suc b (suc k)) p.1) in
      let w : b ^ suc k ≤ n = power b n _ (suc k) (omega arith) (p.2 (omega arith)) in
      let l : b ^ k ≤ n / b = (le-div_iff_mul-le {k = b} (omega arith)).1 (subst (λ (x : ℕ). x ≤ n) (pow-suc b k) w) in
      let o : 1 ≤ b ^ k = one-le-pow k b (omega arith) in
      let g : b ≤ n = subst (λ (x : ℕ). x ≤ n) (one-mul b) ((le-div_iff_mul-le {k = b} {x = 1} {y = n} (omega arith)).0 (omega arith)) in
      rw (le-ltb n b g) (ap (λ (t : List ℕ). t ++ (glyph (n % b) ∷ [])) (fewest_fixed f (suc k) (n / b) (omega arith, u, λ _. power b (n / b) k _ (omega arith) l) (omega arith)))

  -- how many digits n has, at most f
  pub record Counted (f n : ℕ) : Type 0 where
    pub count : ℕ
    pub places : Places b n count
    pub most : count ≤ f

  below : {n : ℕ} → n < b → Places b n 1
  below {n} h = (omega arith, subst (λ (x : ℕ). n < x) (sym (first_power b)) h, λ k. absurd (omega arith))

  more : {f n : ℕ} → b ≤ n → Counted f (n / b) → Counted (suc f) n
  more {f} {n} h c =
      let k = c.count in
      let p = c.places in
      let u : n < b ^ suc k = subst (λ (x : ℕ). n < x) (sym (pow-suc b k)) ((div-lt_iff_lt-mul {k = b} (omega arith)).0 p.1) in
      let l : b ^ k ≤ n = cases k p.0 p.2 in
      record { count = suc k; places = (omega arith, u, λ _. power b n k _ (omega arith) l); most = omega (arith, c.most) }
    where
      cases : (k : ℕ) → 1 ≤ k → (1 < k → b ^ (k - 1) ≤ n / b) → b ^ k ≤ n
      cases zero o q = absurd (omega arith)
      cases (suc zero) o q = subst (λ (x : ℕ). x ≤ n) (sym (first_power b)) h
      cases (suc (suc k)) o q =
          let l : b ^ suc k ≤ n / b = power b (n / b) _ (suc k) (omega arith) (q (omega arith)) in
          subst (λ (x : ℕ). x ≤ n) (sym (pow-suc b (suc k))) ((le-div_iff_mul-le {k = b} (omega arith)).0 l)

  pub counted : (f n : ℕ) → 1 ≤ f → n < b ^ f → Counted f n
  counted zero n l h = absurd (omega arith)
  counted (suc zero) n l h = record { count = 1; places = below (subst (λ (x : ℕ). n < x) (first_power b) h); most = omega arith }
  counted (suc (suc f)) n l h = cases (ltb n b) refl (counted (suc f) (n / b) (omega arith))
    where
      cases : (t : Bool) → ltb n b ≡ t → (n / b < b ^ suc f → Counted (suc f) (n / b)) → Counted (suc (suc f)) n
      cases true e c = record { count = 1; places = below (ltb-true n b e); most = omega arith }
      cases false e c =
          more (ltb-false n b e) (c ((div-lt_iff_lt-mul {k = b} (omega arith)).1 (subst (λ (x : ℕ). n < x) (pow-suc b (suc f)) h)))

  -- a number below b ^ g has at most g digits
  pub at_most : {n k : ℕ} (g : ℕ) → Places b n k → 1 ≤ g → n < b ^ g → k ≤ g
  at_most {n} {k} g p o h =
      let z : k < suc g = lt_of_not-le (λ (l : suc g ≤ k).
      let q : b ^ (k - 1) ≤ n = p.2 (omega arith) in
      let r : b ^ g ≤ b ^ (k - 1) = pow-le-pow_right {n = b} (omega arith) {i = g} {j = k - 1} (omega arith) in
      omega arith) in
      omega arith

  pub fewest_short : (f n : ℕ) → length (fewest b f n) ≤ f
  unfolding fewest
  fewest_short zero n = omega arith
  fewest_short (suc f) n = short (ltb n b) (fewest_short f (n / b))
    where
      short : (t : Bool) → length (fewest b f (n / b)) ≤ f → length (cond t (glyph n ∷ []) (fewest b f (n / b) ++ (glyph (n % b) ∷ []))) ≤ suc f
      short true h = omega arith
      short false h = rw length-append (omega arith)

  -- no leading zero
  pub no_leading_zero : (f n : ℕ) → 1 ≤ f → n < b ^ f → 1 ≤ n → get_or (fewest b f n) 0 0 ≡ 48 → ⊥
  no_leading_zero f n o h p e =
      let c = counted f n o h in
      leads c.count c.places (ap (λ (t : List ℕ). get_or t 0 0) (fewest_fixed f c.count n c.places c.most) ∙ e)
    where
      leads : (k : ℕ) → Places b n k → get_or (fixed b k n) 0 0 ≡ 48 → ⊥
      leads zero q z = omega (arith, q.0)
      leads (suc k) q z =
          let o : 1 ≤ b ^ k = one-le-pow k b (omega arith) in
          let u : n / b ^ k < b = (div-lt_iff_lt-mul {k = b ^ k} (omega arith)).1 (subst (λ (x : ℕ). n < x) (pow-succ' b k) q.1) in
          let l : 1 * b ^ k ≤ n = subst (λ (x : ℕ). x ≤ n) (sym (one-mul (b ^ k))) (low k q) in
          let d : 1 ≤ n / b ^ k = (le-div_iff_mul-le {k = b ^ k} {x = 1} {y = n} (omega arith)).1 l in
          let g : glyph (n / b ^ k % b) ≡ 48 = ap (λ (t : List ℕ). get_or t 0 0) (sym (fixed_front k n)) ∙ z in
          omega (arith, glyph_zero (n / b ^ k % b) g, mod-eq_of_lt u)
        where
          low : (k : ℕ) → Places b n (suc k) → b ^ k ≤ n
          low zero q = subst (λ (x : ℕ). x ≤ n) (sym (pow-zero b)) p
          low (suc k) q = power b n _ (suc k) (omega arith) (q.2 (omega arith))

  module _ (most : b ≤ 16) where
    value : (v k n : ℕ) → (v * b + n / b ^ k % b) * b ^ k + n % b ^ k ≡ v * b ^ suc k + n % b ^ suc k
    value v k n =
        let o : 1 ≤ b ^ k = one-le-pow k b (omega arith) in
        let m : n % b ^ suc k ≡ n / b ^ k % b * b ^ k + n % b ^ k = ap (λ (x : ℕ). n % x) (pow-succ' b k) ∙ mod-mul n {m = b} {c = b ^ k} (omega arith) (omega arith) in
        rw (m, add-mul, pow-succ', mul_assoc, add_assoc)

    -- reading k digits
    pub scan_fixed : (k m v n at : ℕ) (s : List ℕ) → scan b (k + m) v at (fixed b k n ++ s) ≡ scan b m (v * b ^ k + n % b ^ k) (at + k) s
    unfolding fixed scan
    scan_fixed zero m v n at s = rw (zero-add, pow-zero, mod-one, mul-one, add-zero, add-zero)
    scan_fixed (suc k) m v n at s =
        let d = n / b ^ k % b in
        let l : d < b = mod-lt (n / b ^ k) {m = b} (omega arith) in
        let g : digit (glyph d) ≡ d = digit_glyph d (omega arith) in
        let a : at + 1 + k ≡ at + suc k = omega arith in
        ap₂ (λ (j : ℕ) (t : List ℕ). scan b j v at (t ++ s)) (suc-add k m) (fixed_front k n)
        ∙ rw (g, lt-ltb d b l) (scan_fixed k m (v * b + d) n (at + 1) s)
        ∙ ap₂ (λ (x y : ℕ). scan b m x y s) (value v k n) a

    -- a number of k digits is read back from them
    pub fixed_back : (k n at : ℕ) (s : List ℕ) → n < b ^ k → scan b k 0 at (fixed b k n ++ s) ≡ record { value = n; end = at + k }
    unfolding scan
    fixed_back k n at s h =
        ap (λ (j : ℕ). scan b j 0 at (fixed b k n ++ s)) (sym (add-zero k)) ∙ scan_fixed k 0 0 n at s ∙ rw (zero-mul, zero-add, mod-eq_of_lt h)

    -- the fewest digits are read back, where what follows is no digit; at most g are looked at
    pub digits_back : (f g n at c : ℕ) (s : List ℕ) → 1 ≤ f → n < b ^ f → 1 ≤ g → n < b ^ g → ltb (digit c) b ≡ false
        → scan b g 0 at (fewest b f n ++ (c ∷ s)) ≡ record { value = n; end = at + length (fewest b f n) }
    digits_back f g n at c s o h o' h' e =
        let k = counted f n o h in
        let q : fixed b k.count n ≡ fewest b f n = fewest_fixed f k.count n k.places k.most in
        let l : length (fewest b f n) ≡ k.count = ap length (sym q) ∙ length_fixed b k.count n in
        let m : k.count + (g - k.count) ≡ g = omega (arith, at_most g k.places o' h') in
        ap₂ (λ (j : ℕ) (t : List ℕ). scan b j 0 at (t ++ (c ∷ s))) (sym m) (sym q)
        ∙ scan_fixed k.count (g - k.count) 0 n at (c ∷ s)
        ∙ rw (zero-mul, zero-add, mod-eq_of_lt k.places.1, l) (scan_stops b (g - k.count) n (at + k.count) (c ∷ s) (ltb-false (digit c) b e))

    -- the same at a place of a text
    pub number_fixed : (k n at : ℕ) (s r : List ℕ) → drop at s ≡ fixed b k n ++ r → n < b ^ k → number b k s at ≡ record { value = n; end = at + k }
    unfolding number
    number_fixed k n at s r e h = rw e (fixed_back k n at r h)

    pub number_fewest : (f g n at c : ℕ) (s r : List ℕ) → drop at s ≡ fewest b f n ++ (c ∷ r) → 1 ≤ f → n < b ^ f → 1 ≤ g → n < b ^ g → ltb (digit c) b ≡ false
        → number b g s at ≡ record { value = n; end = at + length (fewest b f n) }
    unfolding number
    number_fewest f g n at c s r e o h o' h' d = rw e (digits_back f g n at c r o h o' h' d)

wider : (b j k v : ℕ) → 1 < b → v < b ^ j → v < b ^ (j + k)
wider b j k v two h = let w : b ^ j ≤ b ^ (j + k) = pow-le-pow_right {n = b} (omega arith) {i = j} {j = j + k} (omega arith) in omega arith

-- a number of at most k digits is below b ^ k
pub scan_low : (b k j v at : ℕ) (s : List ℕ) → 1 < b → v < b ^ j → (scan b k v at s).value < b ^ (j + k)
unfolding scan
scan_low b zero j v at s two h = rw add-zero h
scan_low b (suc k) j v at [] two h = wider b j (suc k) v two h
scan_low b (suc k) j v at (c ∷ s) two h = cases (ltb (digit c) b) refl (λ q. scan_low b k (suc j) (v * b + digit c) (at + 1) s two q)
  where
    cases : (t : Bool) → ltb (digit c) b ≡ t → (v * b + digit c < b ^ suc j → (scan b k (v * b + digit c) (at + 1) s).value < b ^ (suc j + k)) → (cond t (scan b k (v * b + digit c) (at + 1) s) (record { value = v; end = at })).value < b ^ (j + suc k)
    cases true e f =
        let n : suc j + k ≡ j + suc k = omega arith in
        subst (λ (i : ℕ). (scan b k (v * b + digit c) (at + 1) s).value < b ^ i) n (f (rw pow-suc (digits_lt h (ltb-true (digit c) b e))))
    cases false e f = wider b j (suc k) v two h

pub number_low : (b k : ℕ) (s : List ℕ) (at : ℕ) → 1 < b → (number b k s at).value < b ^ k
unfolding number
number_low b k s at two = subst (λ (i : ℕ). (scan b k 0 at (drop at s)).value < b ^ i) (zero-add k) (scan_low b k 0 0 at (drop at s) two (rw pow-zero (omega arith)))

-- the first digit's code is below that of `G`
pub first_digit : (b : ℕ) → 1 < b → b ≤ 16 → (f n : ℕ) (r : List ℕ) → get_or (fewest b (suc f) n ++ r) 0 0 < 71
unfolding fewest
first_digit b two most zero n r = cases (ltb n b) refl
  where
    cases : (t : Bool) → ltb n b ≡ t → get_or (cond t (glyph n ∷ []) (glyph (n % b) ∷ []) ++ r) 0 0 < 71
    cases true e = glyph_small n (omega (arith, ltb-true n b e))
    cases false e = glyph_small (n % b) (omega (arith, mod-lt n {m = b} (omega arith)))
first_digit b two most (suc f) n r = cases (ltb n b) refl (first_digit b two most f (n / b) (glyph (n % b) ∷ r))
  where
    cases : (t : Bool) → ltb n b ≡ t → get_or (fewest b (suc f) (n / b) ++ (glyph (n % b) ∷ r)) 0 0 < 71
        → get_or (cond t (glyph n ∷ []) (fewest b (suc f) (n / b) ++ (glyph (n % b) ∷ [])) ++ r) 0 0 < 71
    cases true e h = glyph_small n (omega (arith, ltb-true n b e))
    cases false e h = rw append_assoc h
