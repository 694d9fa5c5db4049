-- `listing::list` meets its contract: before each turn the lines so far stand in the buffer (`Listing`), and each way
-- out of the loop is one of its laws. Assumes nothing.
use mathlib.Core.Path.{◌∙◌}
use Rattle.std.proofs.Common.{◌≡◌, None, Some, Ok, rules}
use native.Mathlib.Omega.{arith}
use Rattle.fields.proofs.Writing.{wrote_length}
use Rattle.listing.proofs.Listings.{listing_none, listing_more, listing_less, listing_room, listed_done, listed_refused, answers}
use Rattle.listing.proofs.list.Goals as goal

pub loop-object-init : goal.loop-object-init
loop-object-init c = rw c.new-c.ensures (listing_none _ _ c.requires)

pub refused_line-requires : goal.refused_line-requires
refused_line-requires c = listing_room _ _ _ _ _ _ c.loop-object.invariant

pub shape_of-out-in-Err : goal.shape_of-out-in-Err
shape_of-out-in-Err c = wrote_length c.refused_line.ensures.wrote ∙ c.loop-object.invariant.long

pub returns-in-Err : goal.returns-in-Err
returns-in-Err c = listed_refused _ _ _ _ _ _ c.loop-object.invariant (answers _ _ _ c.step-step.ensures c.in-Err.is) (rw (c.number.ensures, c.place.ensures) at c.refused_line.ensures)

pub end_line-requires : goal.end_line-requires
end_line-requires c = listing_room _ _ _ _ _ _ c.loop-object.invariant

pub shape_of-out-in-Ok-None : goal.shape_of-out-in-Ok-None
shape_of-out-in-Ok-None c = wrote_length c.end_line.ensures.wrote ∙ c.loop-object.invariant.long

pub returns-in-Ok-None : goal.returns-in-Ok-None
returns-in-Ok-None c =
    let done : c.step-step.result.answer ≡ Ok None = search rules in
    listed_done _ _ _ _ _ _ c.loop-object.invariant (answers _ _ _ c.step-step.ensures done) c.end_line.ensures

pub object_line-used-requires : goal.object_line-used-requires
object_line-used-requires c = listing_room _ _ _ _ _ _ c.loop-object.invariant

pub overflow_add-n : goal.overflow_add-n
overflow_add-n c = let w = c.loop-object.invariant in omega (arith, w.fewer, w.within)

pub loop-object-smaller : goal.loop-object-smaller
loop-object-smaller c =
    let o = c.in-Ok-Some.object in
    let found : c.step-step.result.answer ≡ Ok (Some o) = search rules in
    rw c.step-step.ensures (listing_less _ _ _ _ _ _ c.loop-object.invariant o.start o.size o.kind (answers _ _ _ c.step-step.ensures found))

pub loop-object-preserved : goal.loop-object-preserved
loop-object-preserved c =
    let o = c.in-Ok-Some.object in
    let found : c.step-step.result.answer ≡ Ok (Some o) = search rules in
    rw c.step-step.ensures (listing_more _ _ _ _ _ _ c.loop-object.invariant o.start o.size o.kind (answers _ _ _ c.step-step.ensures found) c.object_line-used.ensures)
