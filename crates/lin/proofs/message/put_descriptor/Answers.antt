-- `lin::put_descriptor` meets its contract: one field behind the other. Assumes nothing.
use Rattle.fields.proofs.Puts.{done, put, first, written}
use Rattle.lin.specs.Tables.{descriptor_slots}
use Rattle.lin.proofs.message.put_descriptor.Goals as goal

pub returns : goal.returns
unfolding descriptor_slots
returns c =
    written (first c.put16.ensures (put c.put16-2.ensures (put c.put8.ensures (put c.put8-2.ensures (put c.put8-3.ensures (put c.put8-4.ensures done))))))
