-- Digits and their codes. Assumes nothing.
use mathlib.Core.Path.{◌≡◌}
use Prim.Native.Nat.{ℕ, ◌+◌, ◌<◌}
use native.Mathlib.Omega.{arith}
use Rattle.std.proofs.lemmas.Bool.Decides.{nat_tests}
use Rattle.digits.specs.Digits.{glyph}
use Rattle.digits.specs.Reading.{digit}

pub glyph_low : (d : ℕ) → d < 10 → glyph d ≡ 48 + d
unfolding glyph
glyph_low d h = grind (arith, nat_tests)

-- a digit's code stands for the digit
pub digit_glyph : (d : ℕ) → d < 16 → digit (glyph d) ≡ d
unfolding digit glyph
digit_glyph d h = grind (arith, nat_tests)

-- only zero is written `0`
pub glyph_zero : (d : ℕ) → glyph d ≡ 48 → d ≡ 0
unfolding glyph
glyph_zero d e = grind (arith, nat_tests)

-- every code is below that of `G`
pub glyph_small : (d : ℕ) → d < 16 → glyph d < 71
unfolding glyph
glyph_small d h = grind (arith, nat_tests)
