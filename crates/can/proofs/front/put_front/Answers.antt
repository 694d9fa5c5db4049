-- `can::put_front` meets its contract: one field behind the other. Assumes nothing.
use Rattle.fields.proofs.Puts.{written, slots}
use Rattle.can.proofs.front.put_front.Goals as goal

pub returns : goal.returns
returns c = written (search slots depth 14)
