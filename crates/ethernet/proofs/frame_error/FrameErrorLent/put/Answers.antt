-- `FrameErrorLent::put` meets its contract: the event with the code at 28. Assumes nothing.
use Rattle.fields.specs.Slots.{bytes_of}
use Rattle.ethernet.specs.Tables.{origin_slots, transmission_slots, event_slots, error_slots}
use Rattle.ethernet.proofs.frame_error.FrameErrorLent.put.Goals as goal

pub returns : goal.returns
unfolding bytes_of error_slots event_slots origin_slots transmission_slots
returns c = c.put_event.ensures
