-- `lin::put_rates` meets its contract: one field behind the other. Assumes nothing.
use mathlib.Core.Path.{refl}
use Rattle.fields.specs.Digits.{le}
use Rattle.fields.proofs.Writing.{then}
use Rattle.lin.specs.Tail.{rates}
use Rattle.lin.proofs.RateLaws.{rate_number}
use Rattle.lin.proofs.tail.put_rates.Goals as goal

pub float_to_bits-exact : goal.float_to_bits-exact
float_to_bits-exact c = rate_number _ c.requires.1

pub returns : goal.returns
unfolding rates le
returns c =
    then (then (then c.put32.ensures c.put64.ensures refl) c.put32-2.ensures refl) c.put32-3.ensures refl
