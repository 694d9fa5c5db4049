-- `asc::record::message_line` meets its contract: the line of what it tells. Assumes nothing.
use Rattle.asc_lines.specs.declared.told.Body.TheVariants.{Message}
use Rattle.can.proofs.KnownLaws.{message_known}
use Rattle.asc.specs.Tells.{head_told, message, tells}
use Rattle.asc.proofs.Writings.{event_line}
use Rattle.asc.proofs.record.message_line.Goals as goal

pub returns : goal.returns
unfolding tells
returns c = let r = c.args.r in event_line (message r) (λ i. record { head = head_told r.header r.channel; body = Message (c.frame_told.ensures i) }) (message_known r c.well_formed.0) c.put_told.ensures
