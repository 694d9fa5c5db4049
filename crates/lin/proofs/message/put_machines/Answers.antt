-- `lin::put_machines` meets its contract: one field behind the other. Assumes nothing.
use Rattle.fields.proofs.Puts.{written, slots}
use Rattle.lin.specs.Tables.{machine_slots}
use Rattle.lin.proofs.message.put_machines.Goals as goal

pub returns : goal.returns
unfolding machine_slots
returns c = written (search slots depth 14)
