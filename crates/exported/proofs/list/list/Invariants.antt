-- `exported::list` meets its contract: before each turn the list from the cursor on, with `count` objects listed, is
-- the whole list (`Entering`), and each way out is one law of it. Assumes nothing.
use Rattle.exported.proofs.Entering.{Entering}
use Rattle.exported.proofs.list.list.Given as goal

abbrev pub invariant-loop-count : goal.invariant-loop-count
invariant-loop-count l = Entering l.log l.at l.initial.entries l.entries l.c.at l.count
