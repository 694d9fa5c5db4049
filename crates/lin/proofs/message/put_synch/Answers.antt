-- `lin::put_synch` meets its contract: one field behind the other. Assumes nothing.
use Rattle.fields.proofs.Puts.{done, put, written}
use Rattle.lin.specs.Tables.{bus_slots, synch_slots}
use Rattle.lin.proofs.BusLaws.{first_bus}
use Rattle.lin.proofs.message.put_synch.Goals as goal

pub returns : goal.returns
unfolding bus_slots synch_slots
returns c =
    written (first_bus (λ r. r.start) (λ r. r.baud) (λ r. r.channel) c.put_bus.ensures (put c.put64.ensures (put c.put64-2.ensures done)))
