-- `differences::turns::count` meets its contract: before each turn what is met from the two cursors on gives the whole
-- count. Assumes nothing.
use Prim.Native.Nat.{◌+◌, ◌-◌}
use lib.ListN.{length}
use Rattle.differences.proofs.Counting.{Counting}
use Rattle.differences.proofs.turns.count.Given as goal

abbrev pub invariant-loop-rows : goal.invariant-loop-rows
invariant-loop-rows l = Counting l.first l.second l.c.at l.d.at l.rows

abbrev pub decreases-loop-rows : goal.decreases-loop-rows
decreases-loop-rows l = (length l.first - l.c.at) + (length l.second - l.d.at)
