-- `digits::writing::decimal` meets its contract: from the last two digits to the first (`Peeling`). Assumes nothing.
use Rattle.digits.proofs.Loops.{Peeling}
use Rattle.digits.proofs.writing.decimal.Given as goal

abbrev pub invariant-loop-rest : goal.invariant-loop-rest
invariant-loop-rest l = Peeling 10 20 l.n l.end l.initial.out l.out l.i l.rest

abbrev pub decreases-loop-rest : goal.decreases-loop-rest
decreases-loop-rest l = l.rest
