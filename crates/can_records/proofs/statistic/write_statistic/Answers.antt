-- `can_records::write_statistic` meets its contract: what its type writes, and is not refused, is valid. Assumes nothing.
use Rattle.headers.specs.Types.{statistic}
use Rattle.can.proofs.KnownLaws.{statistic_known}
use Rattle.outcomes.proofs.Writing.{written_by}
use Rattle.can_records.proofs.statistic.write_statistic.Goals as goal

pub returns : goal.returns
returns c = written_by statistic c.args.r (λ u _. statistic_known c.args.r c.well_formed.0 u) c.write_record.ensures
