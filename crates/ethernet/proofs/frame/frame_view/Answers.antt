-- `ethernet::frame_view` meets its contract: it is what stands behind the structure length. Assumes nothing.
use Rattle.fields.proofs.Parts.{tail}
use Rattle.ethernet.specs.Fields.{structure_length}
use Rattle.ethernet.proofs.frame.frame_view.Goals as goal

pub returns : goal.returns
returns c = tail c.args.b.now structure_length
