-- `differences::turns::count` meets its contract: before each turn what is met from the two cursors on gives the whole
-- count. Assumes nothing.
use mathlib.Core.Path.{◌≡◌, ◌∙◌}
use native.Mathlib.Omega.{arith}
use borrow.Author.Rules.{rules}
use Rattle.std.specs.Prelude.{Ok}
use Rattle.differences.specs.declared.turns.Pair.TheVariants as pair
use Rattle.differences.specs.Turns.{row}
use Rattle.differences.proofs.Turning.{taken}
use Rattle.differences.proofs.Counting.{counting_none, less, gone_equal, counting_equal, gone_row, counting_row, count_end, count_refused}
use Rattle.differences.proofs.turns.count.Goals as goal

pub loop-rows-init : goal.loop-rows-init
loop-rows-init c = rw (c.new-c.ensures, c.new-d.ensures) (counting_none _ _)

pub returns-in-Ok-End : goal.returns-in-Ok-End
returns-in-Ok-End c =
    let e : c.take_turn-pair.result.pair ≡ Ok pair.End = search rules in
    count_end c.loop-rows.invariant ((taken c.take_turn-pair.ensures).pair ∙ e)

pub returns-in-Err : goal.returns-in-Err
returns-in-Err c =
    let k = taken c.take_turn-pair.ensures in
    c.foremost.ensures ∙ rw k.first (count_refused c.loop-rows.invariant c.in-Err.refusal (k.pair ∙ c.in-Err.is))

pub loop-rows-smaller-in-Ok-Equal : goal.loop-rows-smaller-in-Ok-Equal
loop-rows-smaller-in-Ok-Equal c =
    let k = taken c.take_turn-pair.ensures in
    let e : c.take_turn-pair.result.pair ≡ Ok pair.Equal = search rules in
    let l = less c.loop-rows.invariant (gone_equal c.loop-rows.invariant (k.pair ∙ e)) in
    omega (arith, l, k.first, k.second)

pub loop-rows-preserved-in-Ok-Equal : goal.loop-rows-preserved-in-Ok-Equal
loop-rows-preserved-in-Ok-Equal c =
    let k = taken c.take_turn-pair.ensures in
    let e : c.take_turn-pair.result.pair ≡ Ok pair.Equal = search rules in
    rw (k.first, k.second) (counting_equal c.loop-rows.invariant (k.pair ∙ e))

pub loop-rows-smaller : goal.loop-rows-smaller
loop-rows-smaller c =
    let k = taken c.take_turn-pair.ensures in
    let e : c.take_turn-pair.result.pair ≡ row c.in-Ok-Row.field-0-0 = search rules in
    let l = less c.loop-rows.invariant (gone_row c.loop-rows.invariant (k.pair ∙ e)) in
    omega (arith, l, k.first, k.second)

pub loop-rows-preserved : goal.loop-rows-preserved
loop-rows-preserved c =
    let k = taken c.take_turn-pair.ensures in
    let e : c.take_turn-pair.result.pair ≡ row c.in-Ok-Row.field-0-0 = search rules in
    rw (k.first, k.second) (counting_row c.loop-rows.invariant (k.pair ∙ e))
