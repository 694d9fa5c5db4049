-- `can_records::read_overload` meets its contract: it is the read of the record's type. Assumes nothing.
use Rattle.headers.specs.Types.{overload}
use Rattle.outcomes.proofs.Reading.{reads_by}
use Rattle.can_records.proofs.overload.read_overload.Goals as goal

pub returns : goal.returns
returns c = reads_by overload _ _ c.read_record.ensures
