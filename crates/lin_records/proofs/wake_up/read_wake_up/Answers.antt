-- `lin_records::read_wake_up` meets its contract: it is the read of the record's type. Assumes nothing.
use Rattle.headers.specs.Types.{wake_up}
use Rattle.outcomes.proofs.Reading.{reads_by}
use Rattle.lin_records.proofs.wake_up.read_wake_up.Goals as goal

pub returns : goal.returns
returns c = reads_by wake_up _ _ c.read_record.ensures
