-- `fields::get32` meets its contract: it joins two halves. Assumes nothing.
use Rattle.fields.proofs.Halves.{get_both}
use Rattle.fields.proofs.little.get32.Goals as goal

pub returns : goal.returns
returns c =
    let a = c.args in
    get_both 2 2 a.s.now a.at c.requires c.get16.ensures c.get16-2.ensures
