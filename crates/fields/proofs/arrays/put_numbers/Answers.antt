-- `fields::put_numbers` meets its contract: after i turns the first i numbers are written. Assumes nothing.
use mathlib.Core.Path.{refl}
use borrow.Author.Rules.{rules}
use Rattle.fields.specs.Digits.{array}
use Rattle.fields.proofs.Elements.{one_written}
use Rattle.fields.proofs.arrays.put_numbers.Goals as goal

pub loop-i-init : goal.loop-i-init
unfolding array
loop-i-init g c = (refl, record { is = refl })

pub loop-i-preserved : goal.loop-i-preserved
loop-i-preserved g c = (search rules, one_written 8 c.args.at c.loop-i.i c.args.v c.loop-i.invariant.1 c.put64.ensures)
