-- `slips::merge_log` meets its contract: before each turn what is left of the walk and of the merge decides
-- (`MergingLog`); each way out is one law of proofs/Loops/MergingLog. Assumes nothing.
use Prim.Native.Nat.{◌-◌}
use lib.ListN.{length}
use Rattle.slips.specs.Inner.Rests.{slips_at}
use Rattle.slips.proofs.Loops.MergingLog as merging
use Rattle.slips.proofs.pass.merge_log.Given as goal

abbrev pub invariant-loop-object : goal.invariant-loop-object
invariant-loop-object l = merging.MergingLog l.log (slips_at l.initial.rest) l.c.at l.n (slips_at l.rest)

abbrev pub decreases-loop-object : goal.decreases-loop-object
decreases-loop-object l = length l.log - l.c.at
