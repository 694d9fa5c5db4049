-- `can::Statistic::put` meets its contract: one field behind the other. Assumes nothing.
use Rattle.fields.proofs.Puts.{done, put, chunk, first, written}
use Rattle.can.specs.Tables.{counter_slots, statistic_slots}
use Rattle.can.proofs.statistic.StatisticWhole.put.Goals as goal

pub returns : goal.returns
unfolding statistic_slots counter_slots
returns c =
    written (first c.put16.ensures (put c.put16-2.ensures (chunk counter_slots tt c.put_counters.ensures done)))
