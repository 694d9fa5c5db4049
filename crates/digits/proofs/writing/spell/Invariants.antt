-- `digits::writing::spell` meets its contract: from the last digit to the first (`Spelling`). Assumes nothing.
use Rattle.digits.proofs.Loops.{Spelling}
use Rattle.digits.proofs.writing.spell.Given as goal

abbrev pub invariant-loop-i : goal.invariant-loop-i
invariant-loop-i l = Spelling l.base l.k l.n l.at l.initial.out l.out l.i l.rest
