-- `ethernet_records::write_status` meets its contract: what its type writes, and is not refused, is valid. Assumes nothing.
use Rattle.headers.specs.Types.{ethernet_status}
use Rattle.ethernet.proofs.KnownLaws.{status_known}
use Rattle.outcomes.proofs.Writing.{written_by}
use Rattle.ethernet_records.proofs.status.write_status.Goals as goal

pub returns : goal.returns
returns c = written_by ethernet_status c.args.r (λ u _. status_known c.args.r c.well_formed.0 u) c.write_record.ensures
