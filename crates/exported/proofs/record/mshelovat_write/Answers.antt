-- `exported::mshelovat_write` meets its contract: too few numbers lent, or the outcome told. Assumes nothing.
use Rattle.exported.specs.Records.{write_reply, write_into}
use Rattle.exported.proofs.Lending.{uncounted, counted}
use Rattle.exported.proofs.record.mshelovat_write.Goals as goal

pub returns-then-out-lt1 : goal.returns-then-out-lt1
unfolding write_reply
returns-then-out-lt1 c = uncounted _ c.if-out-lt1.true

pub returns : goal.returns
unfolding write_reply write_into
returns c = counted _ c.if-out-lt1.false c.write_object.ensures.answer c.write_object.ensures.buffer c.tell_count.ensures
