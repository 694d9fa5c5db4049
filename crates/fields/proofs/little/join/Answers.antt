-- `fields::join` meets its contract: the shift drops no bit, and the low half lies below it, so that `|` adds the two.
-- Assumes nothing.
use mathlib.Core.Path.{ap, ◌∙◌}
use Prim.Native.Nat.{ℕ}
use native.Mathlib.Omega.{arith}
use lib.Dec.{lit≤}
use lib.Bits.{bit_or, or_shifted}
use lib.Pow.{shl_exact}
use Rattle.fields.proofs.little.join.Goals as goal

pub returns : goal.returns
returns c =
    let a = c.args in
    ap (λ (k : ℕ). bit_or k a.low) (shl_exact {a = a.high} 32 32 64 (omega arith) (lit≤ tt)) ∙ or_shifted a.high 32 a.low (omega arith) ∙ omega arith
