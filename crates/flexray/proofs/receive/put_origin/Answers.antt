-- `flexray::put_origin` meets its contract: one field behind the other. Assumes nothing.
use Rattle.fields.proofs.Puts.{done, put, first, written}
use Rattle.flexray.specs.Tables.{origin_slots}
use Rattle.flexray.proofs.receive.put_origin.Goals as goal

pub returns : goal.returns
unfolding origin_slots
returns c =
    written (first c.put16.ensures (put c.put16-2.ensures (put c.put16-3.ensures (put c.put8.ensures (put c.put_zeros.ensures (put c.put32.ensures (put c.put32-2.ensures done)))))))
