-- `lin::Message::put` meets its contract: one part behind the other. Assumes nothing.
use borrow.Author.Rules.{rules}
use Rattle.fields.proofs.Elements.{array_wrote}
use Rattle.fields.proofs.Puts.{put, chunk, first_chunk, last, written}
use Rattle.lin.specs.Tables.{bus_slots, synch_slots, descriptor_slots, status_slots, machine_slots, message_slots}
use Rattle.lin.proofs.message.MessageWhole.put.Goals as goal

pub returns : goal.returns
unfolding bus_slots synch_slots descriptor_slots status_slots machine_slots message_slots
returns c =
    written (first_chunk synch_slots tt c.put_synch.ensures (chunk descriptor_slots tt c.put_descriptor.ensures (put c.put_numbers.ensures (put (array_wrote 8 (search rules) (search rules) c.put_bytes.ensures) (chunk status_slots tt c.put_status.ensures (chunk machine_slots tt c.put_machines.ensures (last c.put_tail.ensures)))))))
