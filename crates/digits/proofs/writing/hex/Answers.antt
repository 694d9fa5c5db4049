-- `digits::writing::hex` meets its contract: from the last digit to the first (`Peeling`). Assumes nothing.
use native.Mathlib.Omega.{arith}
use Rattle.digits.specs.Digits.{hex}
use Rattle.digits.proofs.Loops.{peeling_none, peeling_more, peeling_last}
use Rattle.digits.proofs.writing.hex.Goals as goal

pub loop-rest-init : goal.loop-rest-init
loop-rest-init c = peeling_none _ _ _ _ _ (omega arith) (omega arith) (omega arith)

pub loop-rest-preserved : goal.loop-rest-preserved
loop-rest-preserved c = peeling_more _ _ _ _ _ (omega arith) _ _ c.loop-rest.invariant _ (omega arith) c.glyph.ensures c.requires.0

pub returns : goal.returns
unfolding hex
returns c = peeling_last _ _ _ _ _ (omega arith) _ _ c.loop-rest.invariant _ (omega arith) c.glyph-2.ensures (omega arith) c.requires.0 c.requires.1
