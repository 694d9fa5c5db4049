-- `digits::pairs::get_pairs` meets its contract: after i turns i bytes are filled in. Assumes nothing.
use mathlib.Core.Path.{◌≡◌}
use Rattle.digits.specs.Pairs.{filled}
use Rattle.digits.proofs.pairs.get_pairs.Given as goal

abbrev pub invariant-loop-i : goal.invariant-loop-i
invariant-loop-i l = l.out ≡ filled l.i l.s l.at
