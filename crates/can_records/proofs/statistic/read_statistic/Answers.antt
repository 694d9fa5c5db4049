-- `can_records::read_statistic` meets its contract: it is the read of the record's type. Assumes nothing.
use Rattle.headers.specs.Types.{statistic}
use Rattle.outcomes.proofs.Reading.{reads_by}
use Rattle.can_records.proofs.statistic.read_statistic.Goals as goal

pub returns : goal.returns
returns c = reads_by statistic _ _ c.read_record.ensures
