-- `ethernet::put_transmission` meets its contract: one field behind the other. Assumes nothing.
use Rattle.fields.proofs.Puts.{written, slots}
use Rattle.ethernet.specs.Tables.{transmission_slots}
use Rattle.ethernet.proofs.event.put_transmission.Goals as goal

pub returns : goal.returns
unfolding transmission_slots
returns c = written (search slots depth 14)
