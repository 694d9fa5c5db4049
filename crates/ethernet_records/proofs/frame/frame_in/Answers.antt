-- `ethernet_records::frame_in` meets its contract: it is the object's record without its frame. Assumes nothing.
use mathlib.Core.Path.{◌∙◌}
use Rattle.headers.specs.Types.{frame}
use Rattle.outcomes.proofs.Reading.{record_pick}
use Rattle.ethernet_records.proofs.frame.frame_in.Goals as goal

pub returns : goal.returns
returns c = c.record_in.ensures ∙ record_pick frame (λ f. f.value) _
