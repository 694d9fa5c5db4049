-- `ethernet_records::write_error` meets its contract: what its type writes, and is not refused, is valid. Assumes nothing.
use Rattle.headers.specs.Types.{ethernet_error}
use Rattle.ethernet.proofs.KnownLaws.{error_known}
use Rattle.outcomes.proofs.Writing.{written_by}
use Rattle.ethernet_records.specs.Framed.{framed}
use Rattle.ethernet_records.proofs.frame_error.write_error.Goals as goal

pub returns : goal.returns
returns c =
    let a = c.args in
    written_by ethernet_error (framed a.e a.lent.now) (λ u e. error_known a.e c.well_formed.0 u a.lent.now e) c.write_as.ensures
