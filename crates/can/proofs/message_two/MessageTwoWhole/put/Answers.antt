-- `can::MessageTwo::put` meets its contract: type 1's fields, and its own behind them. Assumes nothing.
use Rattle.fields.proofs.Puts.{done, put, first_chunk, written}
use Rattle.can.specs.Tables.{data_slots, message_two_slots}
use Rattle.can.proofs.Fronts.{message_written}
use Rattle.can.proofs.message_two.MessageTwoWhole.put.Goals as goal

pub returns : goal.returns
unfolding message_two_slots
returns c =
    let r = c.args.self in
    written (first_chunk (data_slots (λ r. r.message)) tt (message_written r (λ r. r.message) c.put.ensures) (put c.put32.ensures (put c.put8.ensures (put c.put_zeros.ensures done))))
