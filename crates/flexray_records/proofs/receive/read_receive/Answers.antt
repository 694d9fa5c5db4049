-- `flexray_records::read_receive` meets its contract: it is the read of the record's type. Assumes nothing.
use Rattle.headers.specs.Types.{receive}
use Rattle.outcomes.proofs.Reading.{reads_by}
use Rattle.flexray_records.proofs.receive.read_receive.Goals as goal

pub returns : goal.returns
returns c = reads_by receive _ _ c.read_record.ensures
