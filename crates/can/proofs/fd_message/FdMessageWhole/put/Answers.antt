-- `can::FdMessage::put` meets its contract: one part behind the other. Assumes nothing.
use borrow.Author.Rules.{rules}
use Rattle.fields.proofs.Elements.{array_wrote}
use Rattle.fields.proofs.Puts.{done, put, chunk, first_chunk, written}
use Rattle.can.specs.Tables.{front_slots, timing_slots, fd_message_slots}
use Rattle.can.proofs.Fronts.{front_written}
use Rattle.can.proofs.fd_message.FdMessageWhole.put.Goals as goal

pub returns : goal.returns
unfolding fd_message_slots timing_slots
returns c =
    let r = c.args.self in
    written (first_chunk (front_slots _) tt (front_written r _ c.put_front.ensures) (chunk timing_slots tt c.put_timing.ensures (put (array_wrote 64 (search rules) (search rules) c.put_bytes.ensures) (put c.put_zeros.ensures done))))
