-- `exported::tell` meets its contract: too short, or the values copied to the front. Assumes nothing.
use Rattle.std.proofs.Common.{rules}
use Rattle.exported.proofs.Lending.{too_short, told}
use Rattle.exported.proofs.tell.Goals as goal

pub returns-then-out : goal.returns-then-out
returns-then-out g c = too_short _ _ (search rules)

pub returns : goal.returns
returns g c = told _ _ _ _ _ (search rules) (search rules) c.copy_from_slice.ensures.after
