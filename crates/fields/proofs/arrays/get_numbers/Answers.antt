-- `fields::get_numbers` meets its contract: after i turns the first i numbers are read. Assumes nothing.
use borrow.Author.Rules.{rules}
use Rattle.fields.proofs.Elements.{all_read}
use Rattle.fields.proofs.arrays.get_numbers.Goals as goal

pub returns : goal.returns
returns g c = all_read 8 c.args.s.now c.args.at g.row.N c.loop-i.out (search rules) (search rules)
