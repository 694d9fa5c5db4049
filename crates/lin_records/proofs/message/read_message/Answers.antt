-- `lin_records::read_message` meets its contract: it is the read of the record's type. Assumes nothing.
use Rattle.headers.specs.Types.{lin_message}
use Rattle.outcomes.proofs.Reading.{reads_by}
use Rattle.lin_records.proofs.message.read_message.Goals as goal

pub returns : goal.returns
returns c = reads_by lin_message _ _ c.read_record.ensures
