-- `can::Overload::put` meets its contract: one field behind the other. Assumes nothing.
use Rattle.fields.proofs.Puts.{written, slots}
use Rattle.can.specs.Tables.{overload_slots}
use Rattle.can.proofs.overload.OverloadWhole.put.Goals as goal

pub returns : goal.returns
unfolding overload_slots
returns c = written (search slots depth 14)
