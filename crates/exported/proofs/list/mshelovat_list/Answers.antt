-- `exported::list::mshelovat_list` meets its contract, also where too few numbers are lent. Assumes nothing.
use Rattle.exported.proofs.Lending.{unfilled}
use Rattle.exported.proofs.list.mshelovat_list.Goals as goal

pub returns-then-out-lt3 : goal.returns-then-out-lt3
returns-then-out-lt3 c = unfilled c.if-out-lt3.true
