-- `can::Message::put` meets its contract: the front, and the data bytes behind it. Assumes nothing.
use borrow.Author.Rules.{rules}
use Rattle.fields.proofs.Elements.{array_wrote}
use Rattle.fields.proofs.Puts.{done, put, first_chunk, written}
use Rattle.can.specs.Tables.{front_slots, message_slots}
use Rattle.can.proofs.Fronts.{front_written}
use Rattle.can.proofs.message.MessageWhole.put.Goals as goal

pub returns : goal.returns
unfolding message_slots
returns c =
    let r = c.args.self in
    written (first_chunk (front_slots _) tt (front_written r _ c.put_front.ensures) (put (array_wrote 8 (search rules) (search rules) c.put_bytes.ensures) done))
