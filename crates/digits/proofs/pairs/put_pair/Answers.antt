-- `digits::pairs::put_pair` meets its contract: a blank and two digits are a pair. Assumes nothing.
use Rattle.digits.proofs.PairLaws.{one_pair}
use Rattle.digits.proofs.Texts.{before}
use Rattle.digits.proofs.pairs.put_pair.Goals as goal

pub returns : goal.returns
returns c = one_pair _ (before c.spell-here.ensures.0 c.put.ensures.0)
