-- `can_records::write_message` meets its contract: what its type writes, and is not refused, is valid. Assumes nothing.
use Rattle.headers.specs.Types.{can_message}
use Rattle.can.proofs.KnownLaws.{message_known}
use Rattle.outcomes.proofs.Writing.{written_by}
use Rattle.can_records.proofs.message.write_message.Goals as goal

pub returns : goal.returns
returns c = written_by can_message c.args.r (λ u _. message_known c.args.r c.well_formed.0 u) c.write_record.ensures
