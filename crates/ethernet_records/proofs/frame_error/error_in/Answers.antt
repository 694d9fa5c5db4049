-- `ethernet_records::error_in` meets its contract: it is the object's record without its frame. Assumes nothing.
use mathlib.Core.Path.{◌∙◌}
use Rattle.headers.specs.Types.{ethernet_error}
use Rattle.outcomes.proofs.Reading.{record_pick}
use Rattle.ethernet_records.proofs.frame_error.error_in.Goals as goal

pub returns : goal.returns
returns c = c.record_in.ensures ∙ record_pick ethernet_error (λ f. f.value) _
