-- `lin::get_tail` meets its contract: it is what stands behind the first 132 bytes. Assumes nothing.
use mathlib.Core.Path.{ap, ◌∙◌}
use Rattle.fields.proofs.Parts.{tail}
use Rattle.lin.specs.Fields.{tail_of}
use Rattle.lin.proofs.tail.get_tail.Goals as goal

pub returns : goal.returns
returns c = c.tail_of.ensures ∙ ap tail_of (tail c.args.b.now 132)
