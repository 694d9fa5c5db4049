-- `digits::writing::decimal` meets its contract: from the last two digits to the first (`Peeling`). Assumes nothing.
use native.Mathlib.Omega.{arith}
use mathlib.Core.Path.{refl}
use Rattle.digits.specs.Digits.{decimal}
use Rattle.digits.proofs.Loops.{peeling_none, peeling_two, peeling_one, peeling_both}
use Rattle.digits.proofs.writing.decimal.Goals as goal

pub loop-rest-init : goal.loop-rest-init
loop-rest-init c = peeling_none _ _ _ _ _ (omega arith) (omega arith) (omega arith)

pub loop-rest-preserved : goal.loop-rest-preserved
loop-rest-preserved c = peeling_two _ _ _ _ _ _ _ _ c.loop-rest.invariant (omega arith) refl refl c.requires.0

pub returns-then-rest-lt10 : goal.returns-then-rest-lt10
unfolding decimal
returns-then-rest-lt10 c = peeling_one _ _ _ _ _ _ _ c.loop-rest.invariant (omega arith) refl (omega arith) c.requires.0 c.requires.1

pub returns : goal.returns
unfolding decimal
returns c = peeling_both _ _ _ _ _ _ _ _ c.loop-rest.invariant (omega arith) (omega arith) refl refl (omega arith) c.requires.0 c.requires.1
