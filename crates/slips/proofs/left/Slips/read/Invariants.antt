-- `slips::Slips::read` meets its contract: before each turn the slips that are cut off are the bundle's first, and what
-- is left decides (`Cutting`); all stand in the bundle. Assumes nothing.
use lib.ListN.{length}
use Rattle.slips.specs.Inner.Inside.{AllInside}
use Rattle.slips.specs.Inner.Rests.{slips_in}
use Rattle.slips.proofs.Loops.Cutting.{Cutting}
use Rattle.slips.proofs.left.Slips.read.Given as goal

abbrev pub invariant-loop-place : goal.invariant-loop-place
invariant-loop-place l = record {
  cutting : Cutting l.b (slips_in l.b l.place-items) l.at l.least l.place-index;
  inside : AllInside (length l.b) l.place-items;
}
