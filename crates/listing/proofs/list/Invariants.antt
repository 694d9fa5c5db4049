-- `listing::list` meets its contract: before each turn the lines so far stand in the buffer (`Listing`), and each way
-- out of the loop is one of its laws. Assumes nothing.
use Prim.Native.Nat.{◌-◌}
use lib.ListN.{length}
use Rattle.listing.proofs.Listings.{Listing}
use Rattle.listing.proofs.list.Given as goal

abbrev pub invariant-loop-object : goal.invariant-loop-object
invariant-loop-object l = Listing l.log l.initial.out l.out l.c.at l.n l.used

abbrev pub decreases-loop-object : goal.decreases-loop-object
decreases-loop-object l = length l.log - l.c.at
