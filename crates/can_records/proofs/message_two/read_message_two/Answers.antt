-- `can_records::read_message_two` meets its contract: it is the read of the record's type. Assumes nothing.
use Rattle.headers.specs.Types.{message_two}
use Rattle.outcomes.proofs.Reading.{reads_by}
use Rattle.can_records.proofs.message_two.read_message_two.Goals as goal

pub returns : goal.returns
returns c = reads_by message_two _ _ c.read_record.ensures
