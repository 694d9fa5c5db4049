-- `outside::outside` meets its contract: before each turn the slips that are left decide (`Testing`), and the first of
-- them stands there whole. Assumes nothing.
use mathlib.Core.Path.{◌≡◌}
use mathlib.Core.Bool.{false}
use native.Mathlib.Omega.{arith}
use borrow.Author.Rules.{rules}
use lib.ListN.{length}
use lib.Dec.{eqb}
use Rattle.desk_text.proofs.Tests.{room, turn_found}
use Rattle.desk_text.proofs.outside.outside.Goals as goal

pub get32_be-requires : goal.get32_be-requires
get32_be-requires c = let q : eqb (length c.loop-rest.rest.now) 0 ≡ false = search rules in omega (arith, room _ _ _ c.loop-rest.invariant q)

pub slice_bounds-past-count : goal.slice_bounds-past-count
slice_bounds-past-count c = let q : eqb (length c.loop-rest.rest.now) 0 ≡ false = search rules in omega (arith, room _ _ _ c.loop-rest.invariant q)

pub slice_bounds-past-start : goal.slice_bounds-past-start
slice_bounds-past-start c = let q : eqb (length c.loop-rest.rest.now) 0 ≡ false = search rules in omega (arith, room _ _ _ c.loop-rest.invariant q)

pub slice_bounds-past-end : goal.slice_bounds-past-end
slice_bounds-past-end c = let q : eqb (length c.loop-rest.rest.now) 0 ≡ false = search rules in omega (arith, room _ _ _ c.loop-rest.invariant q)

pub slice_bounds-rest-count : goal.slice_bounds-rest-count
slice_bounds-rest-count c = let q : eqb (length c.loop-rest.rest.now) 0 ≡ false = search rules in omega (arith, room _ _ _ c.loop-rest.invariant q)

pub slice_bounds-rest-start : goal.slice_bounds-rest-start
slice_bounds-rest-start c = let q : eqb (length c.loop-rest.rest.now) 0 ≡ false = search rules in omega (arith, room _ _ _ c.loop-rest.invariant q)

pub returns-then-past : goal.returns-then-past
returns-then-past c = let q : eqb (length c.loop-rest.rest.now) 0 ≡ false = search rules in turn_found _ _ _ c.loop-rest.invariant q _ c.get32_be.ensures c.if-past.ensures
