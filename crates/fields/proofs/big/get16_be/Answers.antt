-- `fields::get16_be` meets its contract: it joins two halves. Assumes nothing.
use mathlib.Core.Path.{◌∙◌}
use Prim.Native.Nat.{◌+◌}
use Rattle.fields.proofs.Numbers.{big_one}
use Rattle.fields.proofs.Halves.{get_both_be}
use Rattle.fields.proofs.big.get16_be.Goals as goal

pub returns : goal.returns
returns c =
    let a = c.args in
    get_both_be 1 1 a.s.now a.at c.requires (c.get8.ensures ∙ big_one a.s.now a.at) (c.get8-2.ensures ∙ big_one a.s.now (a.at + 1))
