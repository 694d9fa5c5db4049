-- `exported::line::mshelovat_line` meets its contract: too few numbers lent, or the outcome told. Assumes nothing.
use Rattle.exported.specs.Lines.{object_reply, object_into}
use Rattle.exported.proofs.Lending.{uncounted, counted}
use Rattle.exported.proofs.line.mshelovat_line.Goals as goal

pub returns-then-out-lt1 : goal.returns-then-out-lt1
unfolding object_reply
returns-then-out-lt1 c = uncounted _ c.if-out-lt1.true

pub returns : goal.returns
unfolding object_reply object_into
returns c = counted _ c.if-out-lt1.false c.object_line.ensures.answer c.object_line.ensures.buffer c.tell_count.ensures
