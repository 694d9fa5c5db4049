-- `can_records::write_fd_message` meets its contract: what its type writes, and is not refused, is valid. Assumes nothing.
use Rattle.headers.specs.Types.{fd_message}
use Rattle.can.proofs.KnownLaws.{fd_message_known}
use Rattle.outcomes.proofs.Writing.{written_by}
use Rattle.can_records.proofs.fd_message.write_fd_message.Goals as goal

pub returns : goal.returns
returns c = written_by fd_message c.args.r (λ u e. fd_message_known c.args.r c.well_formed.0 u e) c.write_record.ensures
