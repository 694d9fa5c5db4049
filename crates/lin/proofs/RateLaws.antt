-- The exact rate and its bits: a rate is finite with its sign bit clear exactly where its bits are below infinity's.
-- Assumes nothing.
use mathlib.Core.Path.{◌≡◌, refl, sym, ap, ◌∙◌, subst}
use mathlib.Core.Bool.{Bool, true, false, not, cond, ◌&&◌, and-false}
use Prim.Native.Nat.{ℕ, zero, suc, ◌+◌, ◌/◌, ◌%◌, ◌≤◌, ◌<◌}
use native.Mathlib.Omega.{arith}
use lib.Dec.{T, ltb, leb, eqb}
use lib.Ieee.{Float, nan, inf, fin, binary64, is_nan, nan_bits, to_bits, of_bits, of_fields, odd, prec, low, top, ones, hid, fits, ne, eq, div}
use lib.Ieee.Bits.{nan_bits_is, nan_bits_above, of_bits-to_bits}
use lib.Ieee.Compare.{differs_from_itself}
use borrow.Author.Tests.{lt-ltb, le-ltb, ltb-true, ltb-false, leb-true, leb-false, eq-eqb, ne_eqb}
use Rattle.lin.specs.Fields.{rate_ok}

abbrev pub infinity : ℕ
infinity = 0x7ff0_0000_0000_0000

-- what is written with an odd number is finite, and its sign decides
rate_odd : (d : ℕ) (s : Bool) (q k l : ℕ) → rate_ok (odd d s q k l) ≡ not s
unfolding rate_ok odd
rate_odd d s zero k l = refl
rate_odd d s (suc q) k l = refl

-- of a pattern's fields: the exponent is not all ones, and the sign is clear

rate_top : (a b s : Bool) (y : Float) → rate_ok y ≡ not s → rate_ok (cond a (cond b (inf s) nan) y) ≡ (not a && not s)
unfolding rate_ok
rate_top true true s y e = refl
rate_top true false s y e = refl
rate_top false b s y e = e

rate_fields : (s : Bool) (x t : ℕ) → rate_ok (of_fields binary64 s x t) ≡ (not (eqb x (ones binary64)) && not s)
unfolding of_fields
rate_fields s zero t = rate_odd (prec binary64) s t 0 (low binary64)
rate_fields s (suc x) t = rate_top (eqb (suc x) (ones binary64)) (eqb t 0) s _ (rate_odd (prec binary64) s (hid binary64 + t) x (low binary64))

exponent : ℕ → ℕ
exponent n = n % top binary64 / hid binary64

pub rate_bits : (n : ℕ) → ltb n infinity ≡ rate_ok (of_bits binary64 n)
unfolding of_bits exponent
rate_bits n = pick (ltb n infinity) (leb (top binary64) n) refl refl ∙ sym (rate_fields (leb (top binary64) n) (exponent n) (n % hid binary64))
  where
    pick : (a b : Bool) → ltb n infinity ≡ a → leb (top binary64) n ≡ b → a ≡ (not (eqb (exponent n) (ones binary64)) && not b)
    pick true true p q = absurd (omega (arith, ltb-true n infinity p, leb-true (top binary64) n q))
    pick true false p q = let l : n < infinity = ltb-true n infinity p in rw (ne_eqb (exponent n) (ones binary64) (λ e. omega arith))
    pick false true p q = sym (and-false (not (eqb (exponent n) (ones binary64))))
    pick false false p q =
        let k : infinity ≤ n = ltb-false n infinity p in
        let l : n < top binary64 = leb-false (top binary64) n q in
        rw (eq-eqb (exponent n) (ones binary64) (omega arith))

-- the same of a rate in memory
pub rate_same : (x : Float) → fits binary64 x ≡ true → ltb (to_bits binary64 x) infinity ≡ rate_ok x
rate_same x f = rate_bits (to_bits binary64 x) ∙ ap rate_ok (of_bits-to_bits binary64 x (rw f tt))

-- no NaN is such a rate

pub rate_number : (x : Float) → rate_ok x ≡ true → T (not (is_nan x))
unfolding rate_ok is_nan
rate_number nan h = subst T (sym h) tt
rate_number (inf s) h = tt
rate_number (fin s m e) h = tt

pub rate_nan : (x : Float) → ne x x ≡ true → false ≡ rate_ok x
unfolding rate_ok
rate_nan x d = rw (differs_from_itself x (subst T (sym d) tt))

pub same_number : (x : Float) → ne x x ≡ false → T (not (is_nan x))
unfolding is_nan ne eq
same_number nan d = subst T d tt
same_number (inf s) d = tt
same_number (fin s m e) d = tt

-- which bits are a NaN's, as code tests them

is_nan_nan : (x : Float) → is_nan x ≡ true → nan ≡ x
unfolding is_nan
is_nan_nan nan h = refl
is_nan_nan (inf s) h = absurd (subst T (sym h) tt)
is_nan_nan (fin s m e) h = absurd (subst T (sym h) tt)

pub nan_bits_same : (n : ℕ) → infinity < n % top binary64 → div binary64 (of_bits binary64 0) (of_bits binary64 0) ≡ of_bits binary64 n
unfolding div of_bits of_fields odd
nan_bits_same n h = is_nan_nan (of_bits binary64 n) (sym (nan_bits_is binary64 n) ∙ nan_bits_above binary64 n ∙ lt-ltb infinity (n % top binary64) h)

pub number_bits : (n : ℕ) → n % top binary64 ≤ infinity → T (not (nan_bits binary64 n))
number_bits n h = rw (nan_bits_above binary64 n, le-ltb infinity (n % top binary64) h) tt
