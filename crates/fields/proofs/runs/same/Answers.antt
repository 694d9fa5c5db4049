-- `fields::same` meets its contract: the library's `==`. Assumes nothing.
use mathlib.Core.Path.{◌∙◌}
use Rattle.fields.proofs.Sames.{same_pointwise}
use Rattle.fields.proofs.runs.same.Goals as goal

pub returns : goal.returns
returns c = c.eq.ensures ∙ same_pointwise _ _
