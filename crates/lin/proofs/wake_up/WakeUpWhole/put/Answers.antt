-- `lin::WakeUp::put` meets its contract: one field behind the other. Assumes nothing.
use Rattle.fields.proofs.Puts.{done, put, written}
use Rattle.lin.specs.Tables.{bus_slots, wake_up_slots}
use Rattle.lin.proofs.BusLaws.{first_bus}
use Rattle.lin.proofs.wake_up.WakeUpWhole.put.Goals as goal

pub returns : goal.returns
unfolding bus_slots wake_up_slots
returns c =
    written (first_bus (λ r. r.start) (λ r. r.baud) (λ r. r.channel) c.put_bus.ensures (put c.put8.ensures (put c.put8-2.ensures (put c.put8-3.ensures (put c.put_zeros.ensures done)))))
