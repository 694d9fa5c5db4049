-- `ethernet_records::read_status` meets its contract: it is the read of the record's type. Assumes nothing.
use Rattle.headers.specs.Types.{ethernet_status}
use Rattle.outcomes.proofs.Reading.{reads_by}
use Rattle.ethernet_records.proofs.status.read_status.Goals as goal

pub returns : goal.returns
returns c = reads_by ethernet_status _ _ c.read_record.ensures
