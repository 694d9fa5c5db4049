-- `lin::put_status` meets its contract: one field behind the other. Assumes nothing.
use Rattle.fields.proofs.Puts.{done, put, first, written}
use Rattle.lin.specs.Tables.{status_slots}
use Rattle.lin.proofs.message.put_status.Goals as goal

pub returns : goal.returns
unfolding status_slots
returns c =
    written (first c.put16.ensures (put c.put8.ensures (put c.put8-2.ensures (put c.put8-3.ensures (put c.put8-4.ensures (put c.put8-5.ensures done))))))
