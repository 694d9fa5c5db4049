-- `ethernet_records::write_forwarded_frame` meets its contract: what its type writes, and is not refused, is valid. Assumes nothing.
use Rattle.headers.specs.Types.{forwarded_frame}
use Rattle.ethernet.proofs.KnownLaws.{frame_known}
use Rattle.outcomes.proofs.Writing.{written_by}
use Rattle.ethernet_records.specs.Framed.{framed}
use Rattle.ethernet_records.proofs.frame.write_forwarded_frame.Goals as goal

pub returns : goal.returns
returns c =
    let a = c.args in
    written_by forwarded_frame (framed a.r a.lent.now) (λ u e. frame_known a.r c.well_formed.0 u a.lent.now e) c.write_as.ensures
