-- `differences::compare` meets its contract: by the count, and then the list. Assumes nothing.
use mathlib.Core.Path.{sym, ◌∙◌}
use native.Mathlib.Omega.{arith}
use Rattle.std.proofs.lemmas.Result.{err_from_is_err_and}
use Rattle.differences.specs.Columns.{columns, room}
use Rattle.differences.proofs.Comparisons.{compares_refused, compares_short, compares_rows}
use Rattle.differences.proofs.compare.Goals as goal

pub returns-in_err-rows : goal.returns-in_err-rows
returns-in_err-rows c =
    let p = err_from_is_err_and c.from_residual.result c.from_residual.ensures.1 in
    rw (p.1, p.2) (compares_refused _ _ _ _ (sym c.in_err-rows.was ∙ c.count.ensures))

pub returns-then-min-rows : goal.returns-then-min-rows
unfolding room
returns-then-min-rows c =
    let a = c.args in
    let x = columns a.numbers.now a.firsts.now a.seconds.now a.kinds.now in
    rw c.at.ensures
    (compares_short a.first.now a.second.now x c.in_ok-rows.rows (sym c.in_ok-rows.was ∙ c.count.ensures) (omega arith))

pub returns : goal.returns
unfolding room
returns c =
    let a = c.args in
    let x = columns a.numbers.now a.firsts.now a.seconds.now a.kinds.now in
    compares_rows a.first.now a.second.now x c.in_ok-rows.rows (sym c.in_ok-rows.was ∙ c.count.ensures) _ (omega arith) c.fill.ensures
