-- `can::put_counters` meets its contract: one field behind the other. Assumes nothing.
use Rattle.fields.proofs.Puts.{done, put, first, written}
use Rattle.can.specs.Tables.{counter_slots}
use Rattle.can.proofs.statistic.put_counters.Goals as goal

pub returns : goal.returns
unfolding counter_slots
returns c =
    written (first c.put32.ensures (put c.put32-2.ensures (put c.put32-3.ensures (put c.put32-4.ensures (put c.put32-5.ensures (put c.put32-6.ensures done))))))
