-- `flexray::Receive::put` meets its contract: one part behind the other. Assumes nothing.
use borrow.Author.Rules.{rules}
use Rattle.fields.proofs.Elements.{array_wrote}
use Rattle.fields.proofs.Puts.{done, put, chunk, first_chunk, written}
use Rattle.flexray.specs.Tables.{origin_slots, slot_slots, controller_slots, receive_slots}
use Rattle.flexray.proofs.receive.ReceiveWhole.put.Goals as goal

pub returns : goal.returns
unfolding origin_slots slot_slots controller_slots receive_slots
returns c =
    written (first_chunk origin_slots tt c.put_origin.ensures (chunk slot_slots tt c.put_slot.ensures (chunk controller_slots tt c.put_controller.ensures (put (array_wrote 254 (search rules) (search rules) c.put_bytes.ensures) done))))
