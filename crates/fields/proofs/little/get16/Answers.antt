-- `fields::get16` meets its contract: it joins two halves. Assumes nothing.
use Rattle.fields.proofs.Halves.{get_both}
use Rattle.fields.proofs.little.get16.Goals as goal

pub returns : goal.returns
returns c =
    let a = c.args in
    get_both 1 1 a.s.now a.at c.requires c.get8.ensures c.get8-2.ensures
