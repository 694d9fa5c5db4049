-- `lin_records::write_wake_up` meets its contract: what its type writes, and is not refused, is valid. Assumes nothing.
use Rattle.headers.specs.Types.{wake_up}
use Rattle.lin.proofs.KnownLaws.{wake_up_known}
use Rattle.outcomes.proofs.Writing.{written_by}
use Rattle.lin_records.proofs.wake_up.write_wake_up.Goals as goal

pub returns : goal.returns
returns c = written_by wake_up c.args.r (λ u _. wake_up_known c.args.r c.well_formed.0 u) c.write_record.ensures
