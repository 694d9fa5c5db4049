-- `ethernet::put_event` meets its contract: its four parts, one behind the other. Assumes nothing.
use Rattle.fields.proofs.Puts.{put, chunk, last, first_chunk, written}
use Rattle.ethernet.specs.Tables.{origin_slots, transmission_slots, event_slots}
use Rattle.ethernet.proofs.event.put_event.Goals as goal

pub returns : goal.returns
unfolding event_slots origin_slots transmission_slots
returns c =
    written (first_chunk (origin_slots (λ f. f)) tt c.put_origin.ensures
    (chunk (transmission_slots (λ f. f) _) tt c.put_transmission.ensures (put c.put32.ensures (last c.put_bytes.ensures))))
