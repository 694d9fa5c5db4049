-- `exported::rings::mshelovat_ring_step` meets its contract, also where too few numbers are lent. Assumes nothing.
use Rattle.exported.proofs.Lending.{unfilled}
use Rattle.exported.proofs.rings.mshelovat_ring_step.Goals as goal

pub returns-then-out-lt5 : goal.returns-then-out-lt5
returns-then-out-lt5 c = unfilled c.if-out-lt5.true
