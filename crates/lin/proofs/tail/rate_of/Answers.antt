-- `lin::rate_of` meets its contract: without its sign a NaN's pattern is above infinity's, and zero by zero is a NaN.
-- Assumes nothing.
use Rattle.lin.proofs.RateLaws.{nan_bits_same, number_bits}
use Rattle.lin.proofs.tail.rate_of.Goals as goal

pub returns-then-bits-gt9218868437227405312 : goal.returns-then-bits-gt9218868437227405312
returns-then-bits-gt9218868437227405312 c = nan_bits_same _ c.if-bits-gt9218868437227405312.true

pub float_from_bits-result : goal.float_from_bits-result
float_from_bits-result c = number_bits _ c.if-bits-gt9218868437227405312.false
