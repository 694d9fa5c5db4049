-- `ethernet_records::read_forwarded_error` meets its contract: it is the read of its type, of the record without its frame.
-- Assumes nothing.
use Rattle.headers.specs.Types.{forwarded_error}
use Rattle.outcomes.proofs.Reading.{reads_as_by}
use Rattle.ethernet_records.proofs.frame_error.read_forwarded_error.Goals as goal

pub returns : goal.returns
returns c = reads_as_by forwarded_error (λ f. f.value) _ _ c.read_as.ensures
