-- `lin::put_bus` meets its contract: one field behind the other. Assumes nothing.
use Rattle.fields.proofs.Puts.{written, slots}
use Rattle.lin.specs.Tables.{bus_slots}
use Rattle.lin.proofs.bus.put_bus.Goals as goal

pub returns : goal.returns
unfolding bus_slots
returns c = written (search slots depth 14)
