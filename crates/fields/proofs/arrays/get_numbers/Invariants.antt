-- `fields::get_numbers` meets its contract: after i turns the first i numbers are read. Assumes nothing.
use mathlib.Core.Path.{◌≡◌}
use Prim.Native.Nat.{ℕ, ◌+◌, ◌*◌, ◌<◌}
use lib.ListN.{length, get_or}
use Rattle.fields.specs.Numbers.{num}
use Rattle.fields.proofs.arrays.get_numbers.Given as goal

abbrev pub invariant-loop-i : goal.invariant-loop-i
invariant-loop-i g l = (length l.out ≡ g.row.N) × ((k : ℕ) → k < l.i → get_or l.out k 0 ≡ num 8 l.s (l.at + 8 * k))
