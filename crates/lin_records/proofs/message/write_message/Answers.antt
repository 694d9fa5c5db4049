-- `lin_records::write_message` meets its contract: what its type writes, and is not refused, is valid. Assumes nothing.
use Rattle.headers.specs.Types.{lin_message}
use Rattle.lin.proofs.KnownLaws.{message_known}
use Rattle.outcomes.proofs.Writing.{written_by}
use Rattle.lin_records.proofs.message.write_message.Goals as goal

pub returns : goal.returns
returns c = written_by lin_message c.args.r (λ u e. message_known c.args.r c.well_formed.0 u e) c.write_record.ensures
