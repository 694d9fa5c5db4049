-- `input::read_all` meets its contract: each way out is one of `Reading`. Assumes nothing.
use Rattle.std.proofs.Common.{rules, arith}
use Rattle.std.proofs.lemmas.Grind.{common_steps}
use Rattle.input.proofs.Reading.{reading_none, read_failed, read_ended, read_more}
use Rattle.input.proofs.read_all.Goals as goal

pub loop-n-init : goal.loop-n-init
loop-n-init g c = reading_none _

pub returns-in_err-more : goal.returns-in_err-more
returns-in_err-more g c = rw c.from_residual.ensures (read_failed _ _ _ c.loop-n.invariant (search rules))

pub returns-then-more-eq0 : goal.returns-then-more-eq0
returns-then-more-eq0 g c = read_ended _ _ _ c.loop-n.invariant (search rules)

pub loop-n-preserved : goal.loop-n-preserved
loop-n-preserved g c = read_more _ _ _ c.loop-n.invariant (search rules) c.in_ok-more.more (grind (arith, common_steps)) c.if-more-eq0.false
