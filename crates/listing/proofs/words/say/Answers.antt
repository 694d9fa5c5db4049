-- `words::say` meets its contract: the kit's fewest digits are the decimal. Assumes nothing.
use native.Mathlib.Omega.{arith}
use Rattle.listing.proofs.Texts.{on, numbered}
use Rattle.listing.proofs.words.say.Goals as goal

pub returns : goal.returns
returns c = numbered _ _ (on c.put-here.ensures c.put.ensures) c.decimal-k.ensures.digits c.decimal-k.ensures.len (omega arith)
