-- `digits::writing::hex` meets its contract: from the last digit to the first (`Peeling`). Assumes nothing.
use Rattle.digits.proofs.Loops.{Peeling}
use Rattle.digits.proofs.writing.hex.Given as goal

abbrev pub invariant-loop-rest : goal.invariant-loop-rest
invariant-loop-rest l = Peeling 16 16 l.n l.end l.initial.out l.out l.i l.rest

abbrev pub decreases-loop-rest : goal.decreases-loop-rest
decreases-loop-rest l = l.rest
