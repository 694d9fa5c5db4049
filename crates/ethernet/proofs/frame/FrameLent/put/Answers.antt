-- `FrameLent::put` meets its contract: the event with zeros at 28. Assumes nothing.
use Rattle.fields.specs.Digits.{le}
use Rattle.fields.specs.Slots.{bytes_of}
use Rattle.ethernet.specs.Tables.{origin_slots, transmission_slots, event_slots, frame_slots}
use Rattle.ethernet.proofs.frame.FrameLent.put.Goals as goal

pub returns : goal.returns
unfolding bytes_of frame_slots event_slots origin_slots transmission_slots le
returns c = c.put_event.ensures
