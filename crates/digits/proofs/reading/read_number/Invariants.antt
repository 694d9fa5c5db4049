-- `digits::reading::read_number` meets its contract: what is read so far (`Scanning`). Assumes nothing.
use Rattle.digits.proofs.Loops.{Scanning}
use Rattle.digits.proofs.reading.read_number.Given as goal

abbrev pub invariant-loop : goal.invariant-loop
invariant-loop l = Scanning l.base l.most l.s l.at l.value l.end l.counter
