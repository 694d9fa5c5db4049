-- `slips::Slips::advance` meets its contract: before each turn the first slips are moved and the others stand where they
-- stood (`Turning`), all stand in the bundle, and each turn moves one more. Assumes nothing.
use lib.ListN.{length}
use Rattle.slips.specs.Inner.Inside.{AllInside}
use Rattle.slips.specs.Inner.Rests.{slips_in}
use Rattle.slips.proofs.Loops.Turns.{Turning}
use Rattle.slips.proofs.left.Slips.advance.Given as goal

abbrev pub invariant-loop-place : goal.invariant-loop-place
invariant-loop-place l = record {
  turning : Turning l.object (slips_in l.bundle l.initial.place-items) (slips_in l.bundle l.place-items) l.hits l.low l.place-index;
  inside : AllInside (length l.bundle) l.place-items;
}
