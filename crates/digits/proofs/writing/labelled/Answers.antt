-- `digits::writing::labelled` meets its contract: the text before the number. Assumes nothing.
use native.Mathlib.Omega.{arith}
use Rattle.digits.specs.Text.{labelled}
use Rattle.digits.proofs.Texts.{before}
use Rattle.digits.proofs.writing.labelled.Goals as goal

pub returns : goal.returns
unfolding labelled
returns c = (before c.decimal-here.ensures.0 c.put.ensures.0, omega arith)
