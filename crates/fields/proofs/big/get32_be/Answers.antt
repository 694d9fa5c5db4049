-- `fields::get32_be` meets its contract: it joins two halves. Assumes nothing.
use Rattle.fields.proofs.Halves.{get_both_be}
use Rattle.fields.proofs.big.get32_be.Goals as goal

pub returns : goal.returns
returns c =
    let a = c.args in
    get_both_be 2 2 a.s.now a.at c.requires c.get16_be.ensures c.get16_be-2.ensures
