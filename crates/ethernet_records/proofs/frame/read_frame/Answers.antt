-- `ethernet_records::read_frame` meets its contract: it is the read of its type, of the record without its frame.
-- Assumes nothing.
use Rattle.headers.specs.Types.{frame}
use Rattle.outcomes.proofs.Reading.{reads_as_by}
use Rattle.ethernet_records.proofs.frame.read_frame.Goals as goal

pub returns : goal.returns
returns c = reads_as_by frame (λ f. f.value) _ _ c.read_as.ensures
