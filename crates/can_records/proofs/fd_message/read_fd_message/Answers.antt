-- `can_records::read_fd_message` meets its contract: it is the read of the record's type. Assumes nothing.
use Rattle.headers.specs.Types.{fd_message}
use Rattle.outcomes.proofs.Reading.{reads_by}
use Rattle.can_records.proofs.fd_message.read_fd_message.Goals as goal

pub returns : goal.returns
returns c = reads_by fd_message _ _ c.read_record.ensures
