-- `lin::rate_ok` meets its contract: only a NaN differs from itself, and of the others the bits tell. Assumes nothing.
use Rattle.lin.proofs.RateLaws.{rate_same, rate_nan, same_number}
use Rattle.lin.proofs.tail.rate_ok.Goals as goal

pub returns-then-exact : goal.returns-then-exact
returns-then-exact c = rate_nan _ c.if-exact.true

pub float_to_bits-result : goal.float_to_bits-result
float_to_bits-result c = same_number _ c.if-exact.false

pub returns : goal.returns
returns c = rate_same _ c.well_formed.0.1
