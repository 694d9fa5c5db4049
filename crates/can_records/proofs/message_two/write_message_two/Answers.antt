-- `can_records::write_message_two` meets its contract: what its type writes, and is not refused, is valid. Assumes nothing.
use Rattle.headers.specs.Types.{message_two}
use Rattle.can.proofs.KnownLaws.{message_two_known}
use Rattle.outcomes.proofs.Writing.{written_by}
use Rattle.can_records.proofs.message_two.write_message_two.Goals as goal

pub returns : goal.returns
returns c = written_by message_two c.args.r (λ u _. message_two_known c.args.r c.well_formed.0 u) c.write_record.ensures
