-- `flexray_records::write_receive` meets its contract: what its type writes, and is not refused, is valid. Assumes nothing.
use Rattle.headers.specs.Types.{receive}
use Rattle.flexray.proofs.KnownLaws.{receive_known}
use Rattle.outcomes.proofs.Writing.{written_by}
use Rattle.flexray_records.proofs.receive.write_receive.Goals as goal

pub returns : goal.returns
returns c = written_by receive c.args.r (λ u e. receive_known c.args.r c.well_formed.0 u e) c.write_record.ensures
