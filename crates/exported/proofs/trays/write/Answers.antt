-- `exported::trays::write` meets its contract, also where too few numbers are lent. Assumes nothing.
use Rattle.exported.proofs.Lending.{unfilled}
use Rattle.exported.proofs.trays.write.Goals as goal

pub returns-then-out-lt1 : goal.returns-then-out-lt1
returns-then-out-lt1 c = unfilled c.if-out-lt1.true
