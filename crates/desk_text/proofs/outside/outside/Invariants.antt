-- `outside::outside` meets its contract: before each turn the slips that are left decide (`Testing`), and the first of
-- them is whole (`Turn`). Assumes nothing.
use lib.ListN.{length}
use Rattle.desk_text.proofs.Tests.{Testing}
use Rattle.desk_text.proofs.outside.outside.Given as goal

abbrev pub invariant-loop-rest : goal.invariant-loop-rest
invariant-loop-rest l = Testing l.b l.rest l.len

abbrev pub decreases-loop-rest : goal.decreases-loop-rest
decreases-loop-rest l = length l.rest
