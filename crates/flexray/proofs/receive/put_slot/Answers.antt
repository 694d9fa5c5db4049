-- `flexray::put_slot` meets its contract: one field behind the other. Assumes nothing.
use Rattle.fields.proofs.Puts.{done, put, puts}
use Rattle.flexray.specs.Tables.{slot_slots}
use Rattle.flexray.proofs.receive.put_slot.Goals as goal

-- with r given, a wrong write is refused at its own place
pub returns : goal.returns
unfolding slot_slots
returns c =
    puts {r = c.args.r} (put c.put16.ensures (put c.put16-2.ensures (put c.put16-3.ensures (put c.put16-4.ensures (put c.put16-5.ensures (put c.put8.ensures (put c.put_zeros.ensures done)))))))
