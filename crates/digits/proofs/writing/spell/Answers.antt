-- `digits::writing::spell` meets its contract: from the last digit to the first (`Spelling`). Assumes nothing.
use native.Mathlib.Omega.{arith}
use Rattle.digits.proofs.Loops.{spelling_more, spelling_done}
use Rattle.digits.proofs.writing.spell.Goals as goal

pub loop-i-preserved : goal.loop-i-preserved
loop-i-preserved c = spelling_more _ _ _ _ _ _ _ _ c.loop-i.invariant (omega arith) c.glyph.ensures

pub returns : goal.returns
returns c = spelling_done _ _ _ _ _ _ _ c.loop-i.invariant (omega arith) (omega arith) (omega arith)
