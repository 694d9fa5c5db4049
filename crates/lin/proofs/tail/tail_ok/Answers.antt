-- `lin::tail_ok` meets its contract, by the ways to end. Assumes nothing.
use borrow.Enum.Refused.{opened}
use Rattle.lin.proofs.TailLaws.{no_rates}
use Rattle.lin.proofs.tail.tail_ok.Goals as goal

pub returns-in-Rates : goal.returns-in-Rates
returns-in-Rates c = rw c.in-Rates.is c.rate_ok.ensures

pub returns-in_default : goal.returns-in_default
returns-in_default c = no_rates c.args.t (opened c.in_default.in_default-own.keys2)
