-- What the loops know: digits written from the last to the first, and read. Assumes nothing.
use mathlib.Core.Path.{◌≡◌, refl, sym, ap, ap₂, ◌∙◌, subst}
use mathlib.Core.List.{List, [], ◌∷◌, ◌++◌, append_assoc, append-nil}
use Prim.Native.Nat.{ℕ, zero, suc, ◌+◌, ◌*◌, ◌-◌, ◌/◌, ◌%◌, ◌^◌, ◌≤◌, ◌<◌}
use native.Mathlib.Nat.{pow-zero, pow-suc, add-zero, add-suc, one-mul, lt_of_not-le, pow-le-pow_right, le-div_iff_mul-le, div-lt_iff_lt-mul}
use native.Mathlib.Omega.{arith}
use Rattle.std.proofs.Common.{add-one}
use borrow.Author.Tests.{lt-ltb, le-ltb}
use lib.Arith.{digits_lt}
use lib.ListN.{length, get_or, get_or-eq_default, set, drop}
use lib.Seq.{sets, drop-drop, get_or-drop}
use Rattle.fields.specs.Written.{Wrote}
use Rattle.fields.proofs.Writing.{wrote_length}
use Rattle.digits.specs.Digits.{glyph, fixed, fewest}
use Rattle.digits.specs.Reading.{digit, scan, number}
use Rattle.digits.specs.Text.{Said}
use Rattle.digits.proofs.Digits.{length_fixed, fewest_short, scan_stops, scan_goes}
use Rattle.digits.proofs.Glyphs.{glyph_low}
use Rattle.digits.proofs.Texts.{byte_before, within}

-- the last digits of n stand in the buffer from place at + i on, and rest is what stands in front of them
pub record Spelling (b k n at : ℕ) (x y : List ℕ) (i rest : ℕ) : Type 0 where
  pub within : i ≤ k
  pub behind : List ℕ
  pub wrote : Wrote (at + i) behind x y
  pub same : fixed b i rest ++ behind ≡ fixed b k n

module _ (b k n at : ℕ) (x : List ℕ) where
  pub spelling_more : {y : List ℕ} (i rest g : ℕ) → Spelling b k n at x y i rest → 0 < i → g ≡ glyph (rest % b)
      → Spelling b k n at x (set y (at + (i - 1)) g) (i - 1) (rest / b)
  unfolding fixed
  spelling_more zero rest g s h e = absurd (omega arith)
  spelling_more {y} (suc i) rest g s h e =
      let p : suc i - 1 ≡ i = omega arith in
      let w : Wrote (suc (at + i)) s.behind x y = record { is = s.wrote.is ∙ rw add-suc } in
      rw p
      (record {
        within = omega (arith, s.within);
        behind = g ∷ s.behind;
        wrote = byte_before g w;
        same = rw e (sym (append_assoc (fixed b i (rest / b)) (glyph (rest % b) ∷ []) s.behind) ∙ s.same);
      })

  pub spelling_done : {y : List ℕ} (i rest : ℕ) → Spelling b k n at x y i rest → i ≡ 0 → {e : ℕ} → at + k ≡ e → e ≤ length x → Said at (fixed b k n) x y e × (e ≤ at + k)
  unfolding fixed
  spelling_done zero rest s e q h = (
    record {
      wrote = record { is = s.wrote.is ∙ ap₂ (λ (j : ℕ) (t : List ℕ). sets x j t) (add-zero at) s.same };
      ends = sym q ∙ rw length_fixed;
      inside = omega (arith, wrote_length s.wrote);
    },
    omega arith,
  )
  spelling_done (suc i) rest s e q h = absurd (omega arith)

-- the last digits of n stand in the buffer from place i on, and rest is what stands in front of them, at most `left`
-- digits
pub record Peeling (b f n e : ℕ) (x y : List ℕ) (i rest : ℕ) : Type 0 where
  pub left : ℕ
  pub some : 1 ≤ left
  pub behind : List ℕ
  pub wrote : Wrote i behind x y
  pub ends : i + length behind ≡ e
  pub all : left + length behind ≡ f
  pub low : rest < b ^ left
  pub same : fewest b left rest ++ behind ≡ fewest b f n

-- a number that is not 0 has a digit
digits_left : (b l : ℕ) {v : ℕ} → 1 ≤ v → v < b ^ l → 1 ≤ l
digits_left b zero {v} h q = absurd (let z : v < 1 = subst (λ (w : ℕ). v < w) (pow-zero b) q in omega arith)
digits_left b (suc l) h q = omega arith

module _ (b f n e : ℕ) (x : List ℕ) (two : 1 < b) where
  pub peeling_none : 1 ≤ f → n < b ^ f → Peeling b f n e x x e n
  peeling_none p h = record { left = f; some = p; behind = []; wrote = record { is = refl }; ends = add-zero e; all = add-zero f; low = h; same = append-nil (fewest b f n) }

  module _ {y : List ℕ} (i rest : ℕ) (s : Peeling b f n e x y i rest) where
    -- so many places are left in front
    pub peeling_room : f ≤ e → s.left ≤ i
    peeling_room h = omega (arith, s.ends, s.all)

    pub peeling_more : (g : ℕ) → b ≤ rest → g ≡ glyph (rest % b) → f ≤ e → Peeling b f n e x (set y (i - 1) g) (i - 1) (rest / b)
    unfolding fewest
    peeling_more g h q r = go s.left s.low s.all s.same (peeling_room r)
      where
        go : (l : ℕ) → rest < b ^ l → l + length s.behind ≡ f → fewest b l rest ++ s.behind ≡ fewest b f n → l ≤ i → Peeling b f n e x (set y (i - 1) g) (i - 1) (rest / b)
        go zero p a m o = absurd (let z : rest < 1 = subst (λ (v : ℕ). rest < v) (pow-zero b) p in omega arith)
        go (suc l) p a m o =
            let j : i ≡ suc (i - 1) = omega arith in
            let w : Wrote (suc (i - 1)) s.behind x y = subst (λ (v : ℕ). Wrote v s.behind x y) j s.wrote in
            let t : fewest b l (rest / b) ++ (glyph (rest % b) ∷ []) ++ s.behind ≡ fewest b f n = rw (le-ltb rest b h) at m in
            let u : rest / b < b ^ l = (div-lt_iff_lt-mul {k = b} (omega arith)).1 (subst (λ (v : ℕ). rest < v) (pow-suc b l) p) in
            let v : 1 ≤ rest / b = (le-div_iff_mul-le {k = b} {x = 1} {y = rest} (omega arith)).1 (subst (λ (z : ℕ). z ≤ rest) (sym (one-mul b)) h) in
            record {
              left = l;
              some = digits_left b l v u;
              behind = g ∷ s.behind;
              wrote = byte_before g w;
              ends = omega (arith, s.ends);
              all = omega (arith, a);
              low = u;
              same = rw q (sym (append_assoc (fewest b l (rest / b)) (glyph (rest % b) ∷ []) s.behind) ∙ t);
            }

    -- a place is left
    pub peeling_first : f ≤ e → 1 ≤ i
    peeling_first h = omega (arith, peeling_room h, s.some)

    pub peeling_last : (g : ℕ) → rest < b → g ≡ glyph rest → 1 ≤ f → f ≤ e → e ≤ length x → Said (i - 1) (fewest b f n) x (set y (i - 1) g) e × (e ≤ i - 1 + f)
    unfolding fewest
    peeling_last g h q p r o = go s.left s.some s.all s.same (peeling_room r)
      where
        go : (l : ℕ) → 1 ≤ l → l + length s.behind ≡ f → fewest b l rest ++ s.behind ≡ fewest b f n → l ≤ i → Said (i - 1) (fewest b f n) x (set y (i - 1) g) e × (e ≤ i - 1 + f)
        go zero u a m v = absurd (omega arith)
        go (suc l) u a m v =
            let j : i ≡ suc (i - 1) = omega arith in
            let w : Wrote (suc (i - 1)) s.behind x y = subst (λ (k : ℕ). Wrote k s.behind x y) j s.wrote in
            let t : glyph rest ∷ s.behind ≡ fewest b f n = rw (lt-ltb rest b h) at m in
            let c : g ∷ s.behind ≡ fewest b f n = ap (λ (k : ℕ). k ∷ s.behind) q ∙ t in
            within f
            (record {
              wrote = subst (λ (bs : List ℕ). Wrote (i - 1) bs x (set y (i - 1) g)) c (byte_before g w);
              ends = sym (ap (λ (bs : List ℕ). i - 1 + length bs) (sym c) ∙ omega (arith, s.ends));
              inside = omega (arith, wrote_length (byte_before g w));
            })
            (fewest_short b two f n)

-- v is read after so many digits, and the number goes on at place i with at most `left` digits
pub record Scanning (b most : ℕ) (s : List ℕ) (at v i looked : ℕ) : Type 0 where
  pub left : ℕ
  pub all : looked + left ≡ most
  pub place : i ≡ at + looked
  pub low : v < b ^ looked
  pub same : scan b left v i (drop i s) ≡ number b most s at

module _ (b most : ℕ) (s : List ℕ) (at : ℕ) (two : 1 < b) (sixteen : b ≤ 16) where
  pub scanning_none : Scanning b most s at 0 at 0
  unfolding number
  scanning_none = record { left = most; all = omega arith; place = omega arith; low = rw pow-zero (omega arith); same = refl }

  module _ (v i looked : ℕ) (c : Scanning b most s at v i looked) where
    first : get_or (drop i s) 0 0 ≡ get_or s i 0
    first = get_or-drop i s 0 0 ∙ ap (λ (j : ℕ). get_or s j 0) (add-zero i)

    -- all digits are read, or none stands there
    pub scanning_full : most ≤ looked → (record { value = v; end = i } ≡ number b most s at) × (i ≤ at + most)
    unfolding scan
    scanning_full h =
        let z : c.left ≡ 0 = omega (arith, c.all) in
        (subst (λ (l : ℕ). scan b l v i (drop i s) ≡ number b most s at) z c.same, omega (arith, c.all, c.place))

    pub scanning_stop : {d : ℕ} → d ≡ digit (get_or s i 0) → b ≤ d → (record { value = v; end = i } ≡ number b most s at) × (i ≤ at + most)
    scanning_stop e h = (sym (scan_stops b c.left v i (drop i s) (rw first (omega arith))) ∙ c.same, omega (arith, c.all, c.place))

    module _ {d : ℕ} (more : looked < most) (e : d ≡ digit (get_or s i 0)) (k : d < b) where
      -- the next digit stands in the text, and fits
      pub scanning_inside : i < length s
      unfolding digit
      scanning_inside = lt_of_not-le (λ (h : length s ≤ i). let z : d ≡ 16 = e ∙ ap digit (get_or-eq_default s 0 h) in omega arith)

      pub scanning_fits : b ^ most ≤ 18446744073709551616 → v * b + d < 18446744073709551616
      scanning_fits m =
          let u : v * b + d < b ^ suc looked = rw pow-suc (digits_lt c.low k) in
          let w : b ^ suc looked ≤ b ^ most = pow-le-pow_right {n = b} (omega arith) {i = suc looked} {j = most} (omega arith) in
          omega arith

      pub scanning_more : Scanning b most s at (v * b + d) (i + 1) (looked + 1)
      scanning_more = go c.left c.all c.same
        where
          go : (l : ℕ) → looked + l ≡ most → scan b l v i (drop i s) ≡ number b most s at → Scanning b most s at (v * b + d) (i + 1) (looked + 1)
          go zero a m = absurd (omega arith)
          go (suc l) a m =
              let q : digit (get_or (drop i s) 0 0) ≡ d = ap digit first ∙ sym e in
              let g : scan b l (v * b + d) (i + 1) (drop 1 (drop i s)) ≡ number b most s at = rw q at (sym (scan_goes b l v i (drop i s) sixteen (rw q k)) ∙ m) in
              record {
                left = l;
                all = omega arith;
                place = omega (arith, c.place);
                low = rw (add-one, pow-suc) (digits_lt c.low k);
                same = ap (scan b l (v * b + d) (i + 1)) (sym (drop-drop 1 i s)) ∙ g;
              }

-- the last two decimal digits
pub peeling_both : (f n e : ℕ) (x : List ℕ) {y : List ℕ} (i rest g h : ℕ) → Peeling 10 f n e x y i rest → 10 ≤ rest → rest < 100 → g ≡ 48 + rest % 10 → h ≡ 48 + rest / 10
    → 1 ≤ f → f ≤ e → e ≤ length x → Said (i - 1 - 1) (fewest 10 f n) x (set (set y (i - 1) g) (i - 1 - 1) h) e × (e ≤ i - 1 - 1 + f)
peeling_both f n e x i rest g h s l k p q o r u =
    let a : g ≡ glyph (rest % 10) = p ∙ sym (glyph_low (rest % 10) (omega arith)) in
    let b : h ≡ glyph (rest / 10) = q ∙ sym (glyph_low (rest / 10) (omega arith)) in
    peeling_last 10 f n e x (omega arith) (i - 1) (rest / 10) (peeling_more 10 f n e x (omega arith) i rest s g l a r) h (omega arith) b o r u

-- the last one
pub peeling_one : (f n e : ℕ) (x : List ℕ) {y : List ℕ} (i rest g : ℕ) → Peeling 10 f n e x y i rest → rest < 10 → g ≡ 48 + rest % 10
    → 1 ≤ f → f ≤ e → e ≤ length x → Said (i - 1) (fewest 10 f n) x (set y (i - 1) g) e × (e ≤ i - 1 + f)
peeling_one f n e x i rest g s l p o r u =
    let z : rest % 10 ≡ rest = omega arith in
    let a : g ≡ glyph rest = p ∙ ap (λ (v : ℕ). 48 + v) z ∙ sym (glyph_low rest l) in
    peeling_last 10 f n e x (omega arith) i rest s g l a o r u

-- two decimal digits more
pub peeling_two : (f n e : ℕ) (x : List ℕ) {y : List ℕ} (i rest g h : ℕ) → Peeling 10 f n e x y i rest → 100 ≤ rest → g ≡ 48 + rest % 100 % 10 → h ≡ 48 + rest % 100 / 10 → f ≤ e
    → Peeling 10 f n e x (set (set y (i - 2 + 1) g) (i - 2) h) (i - 2) (rest / 100)
peeling_two f n e x {y} i rest g h s l p q r =
    let u : g ≡ glyph (rest % 10) = p ∙ sym (glyph_low (rest % 10) (omega arith) ∙ omega arith) in
    let v : h ≡ glyph (rest / 10 % 10) = q ∙ sym (glyph_low (rest / 10 % 10) (omega arith) ∙ omega arith) in
    let m = peeling_more 10 f n e x (omega arith) i rest s g (omega arith) u r in
    let o = peeling_more 10 f n e x (omega arith) (i - 1) (rest / 10) m h (omega arith) v r in
    let a : i - 1 ≡ i - 2 + 1 = omega (arith, peeling_first 10 f n e x (omega arith) (i - 1) (rest / 10) m r) in
    let j : i - 1 - 1 ≡ i - 2 = omega arith in
    let t : rest / 10 / 10 ≡ rest / 100 = omega arith in
    subst (λ (w : ℕ). Peeling 10 f n e x (set (set y (i - 2 + 1) g) (i - 2) h) (i - 2) w) t
    (subst (λ (w : ℕ). Peeling 10 f n e x (set (set y (i - 2 + 1) g) w h) w (rest / 10 / 10)) j
    (subst (λ (w : ℕ). Peeling 10 f n e x (set (set y w g) (i - 1 - 1) h) (i - 1 - 1) (rest / 10 / 10)) a o))
