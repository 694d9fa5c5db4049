-- `exported::line::mshelovat_read_line` meets its contract, also where too few numbers are lent. Assumes nothing.
use Rattle.exported.proofs.Lining.{read_short}
use Rattle.exported.proofs.line.mshelovat_read_line.Goals as goal

pub returns-then-out-lt24 : goal.returns-then-out-lt24
returns-then-out-lt24 c = read_short _ _ c.if-out-lt24.true
