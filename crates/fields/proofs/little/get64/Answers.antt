-- `fields::get64` meets its contract: it joins two halves. Assumes nothing.
use mathlib.Core.Path.{◌∙◌}
use Rattle.fields.proofs.Halves.{get_both}
use Rattle.fields.proofs.little.get64.Goals as goal

pub returns : goal.returns
returns c =
    c.join.ensures ∙ get_both 4 4 c.args.s.now c.args.at c.requires c.get32.ensures c.get32-2.ensures
