-- `flexray::put_controller` meets its contract: one field behind the other. Assumes nothing.
use Rattle.fields.proofs.Puts.{puts, slots}
use Rattle.flexray.specs.Tables.{controller_slots}
use Rattle.flexray.proofs.receive.put_controller.Goals as goal

pub returns : goal.returns
unfolding controller_slots
returns c = puts (search slots depth 14)
