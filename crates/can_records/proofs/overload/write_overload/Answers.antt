-- `can_records::write_overload` meets its contract: what its type writes, and is not refused, is valid. Assumes nothing.
use Rattle.headers.specs.Types.{overload}
use Rattle.can.proofs.KnownLaws.{overload_known}
use Rattle.outcomes.proofs.Writing.{written_by}
use Rattle.can_records.proofs.overload.write_overload.Goals as goal

pub returns : goal.returns
returns c = written_by overload c.args.r (λ u _. overload_known c.args.r c.well_formed.0 u) c.write_record.ensures
