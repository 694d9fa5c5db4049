-- `asc::record::copy_line` meets its contract: 10, or what a copy leaves. Assumes nothing.
use Rattle.asc.proofs.Writings.{no_room, copied}
use Rattle.asc.proofs.record.copy_line.Goals as goal

pub returns-then-out-line : goal.returns-then-out-line
returns-then-out-line c = rw c.at.ensures (no_room c.if-out-line.true)

pub returns : goal.returns
returns c = copied c.if-out-line.false c.put_bytes.ensures
