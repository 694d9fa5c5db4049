-- `exported::line::mshelovat_line_at` meets its contract, also where too few numbers are lent. Assumes nothing.
use Rattle.exported.proofs.Lending.{unfilled}
use Rattle.exported.proofs.line.mshelovat_line_at.Goals as goal

pub returns-then-out-lt2 : goal.returns-then-out-lt2
returns-then-out-lt2 c = unfilled c.if-out-lt2.true
