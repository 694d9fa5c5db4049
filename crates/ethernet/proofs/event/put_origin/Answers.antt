-- `ethernet::put_origin` meets its contract: one field behind the other. Assumes nothing.
use Rattle.fields.proofs.Puts.{written, slots}
use Rattle.ethernet.specs.Tables.{origin_slots}
use Rattle.ethernet.proofs.event.put_origin.Goals as goal

pub returns : goal.returns
unfolding origin_slots
returns c = written (search slots depth 14)
