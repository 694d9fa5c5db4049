-- `slips::merge_log` meets its contract: before each turn what is left of the walk and of the merge decides
-- (`MergingLog`); each way out is one law of proofs/Loops/MergingLog. Assumes nothing.
use Rattle.std.proofs.lemmas.Result.{err_from_is_err_and}
use Rattle.slips.proofs.Loops.MergingLog.{stepped}
use Rattle.slips.proofs.Loops.MergingLog as merging
use Rattle.slips.proofs.pass.merge_log.Goals as goal

pub returns-in_err-walk : goal.returns-in_err-walk
returns-in_err-walk c =
    let e = stepped c.step-step.ensures (rw c.in-Some.is at c.in_ok-object.was) in
    let p = err_from_is_err_and c.from_residual-in_err-walk.result c.from_residual-in_err-walk.ensures.1 in
    rw (p.1, p.2) (merging.merge_trouble _ _ _ _ _ c.loop-object.invariant _ e _ (rw (c.advance-merged.ensures.lowest, c.advance-merged.ensures.hit) at c.in-Some-trouble.ensures) _ (rw c.step-step.ensures at c.in_err-walk.ensures))

pub returns-in-Some-trouble : goal.returns-in-Some-trouble
returns-in-Some-trouble c =
    let e = stepped c.step-step.ensures (rw c.in-Some.is at c.in_ok-object.was) in
    merging.merge_trouble _ _ _ _ _ c.loop-object.invariant _ e _ (rw (c.advance-merged.ensures.lowest, c.advance-merged.ensures.hit) at c.in-Some-trouble.ensures) _ (rw c.step-step.ensures at c.in_ok-walk.ensures)

pub loop-object-preserved : goal.loop-object-preserved
loop-object-preserved c =
    let e = stepped c.step-step.ensures (rw c.in-Some.is at c.in_ok-object.was) in
    rw (c.step-step.ensures, c.advance-merged.ensures.moved) (merging.merging_more _ _ _ _ _ c.loop-object.invariant _ e (rw (c.advance-merged.ensures.lowest, c.advance-merged.ensures.hit) at c.in_default-trouble.ensures))
