-- `ethernet::Status::put` meets its contract: one field behind the other. Assumes nothing.
use Rattle.fields.proofs.Puts.{done, put, first, written}
use Rattle.ethernet.specs.Tables.{eight_slots, status_slots}
use Rattle.ethernet.proofs.status.StatusWhole.put.Goals as goal

pub returns : goal.returns
unfolding status_slots eight_slots
returns c =
    written (first c.put16.ensures (put c.put16-2.ensures (put c.put8.ensures (put c.put8-2.ensures (put c.put8-3.ensures (put c.put8-4.ensures (put c.put8-5.ensures (put c.put8-6.ensures (put c.put8-7.ensures (put c.put8-8.ensures (put c.put32.ensures done)))))))))))
