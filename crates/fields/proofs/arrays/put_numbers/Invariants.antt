-- `fields::put_numbers` meets its contract: after i turns the first i numbers are written. Assumes nothing.
use mathlib.Core.Path.{◌≡◌}
use lib.ListN.{length}
use Rattle.fields.specs.Digits.{array}
use Rattle.fields.specs.Written.{Wrote}
use Rattle.fields.proofs.arrays.put_numbers.Given as goal

abbrev pub invariant-loop-i : goal.invariant-loop-i
invariant-loop-i g l = (length l.buf ≡ length l.initial.buf) × Wrote l.at (array 8 l.i l.v) l.initial.buf l.buf
