-- `can::put_timing` meets its contract: one field behind the other. Assumes nothing.
use Rattle.fields.proofs.Puts.{done, put, puts}
use Rattle.can.specs.Tables.{timing_slots}
use Rattle.can.proofs.fd_message.put_timing.Goals as goal

pub returns : goal.returns
unfolding timing_slots
returns c =
    puts {r = c.args.r} (put c.put32.ensures (put c.put8.ensures (put c.put8-2.ensures (put c.put8-3.ensures (put c.put_zeros.ensures done)))))
