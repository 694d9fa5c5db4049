-- `digits::pairs::get_pairs` meets its contract: after i turns i bytes are filled in. Assumes nothing.
use native.Mathlib.Omega.{arith}
use mathlib.Core.Path.{refl}
use Rattle.digits.specs.Pairs.{bytes_in, filled}
use Rattle.digits.proofs.PairLaws.{byte_low, filled_more, filled_done}
use Rattle.digits.proofs.pairs.get_pairs.Goals as goal

pub loop-i-init : goal.loop-i-init
unfolding filled bytes_in
loop-i-init c = refl

pub overflow_cast-out : goal.overflow_cast-out
overflow_cast-out c = omega (arith, byte_low _ _ c.read_number.ensures.0)

pub loop-i-preserved : goal.loop-i-preserved
loop-i-preserved c = filled_more _ _ _ _ _ c.loop-i.invariant (omega arith) c.read_number.ensures.0

pub returns : goal.returns
returns c = filled_done _ _ _ _ c.loop-i.invariant (omega arith)
