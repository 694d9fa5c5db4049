-- `differences::turns::fill` meets its contract: before each turn the rows from the two cursors on complete the list.
-- Assumes nothing.
use Prim.Native.Nat.{◌+◌, ◌-◌}
use lib.ListN.{length}
use Rattle.differences.specs.Columns.{columns}
use Rattle.differences.proofs.Filling.{Filling}
use Rattle.differences.proofs.turns.fill.Given as goal

abbrev pub invariant-loop-i : goal.invariant-loop-i
invariant-loop-i l =
    Filling l.first l.second l.rows (columns l.fn.numbers l.fn.firsts l.fn.seconds l.fn.kinds) (columns l.numbers l.firsts l.seconds l.kinds)
    l.c.at l.d.at l.n l.i

abbrev pub decreases-loop-i : goal.decreases-loop-i
decreases-loop-i l = (length l.first - l.c.at) + (length l.second - l.d.at)
