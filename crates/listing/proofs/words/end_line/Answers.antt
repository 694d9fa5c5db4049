-- `words::end_line` meets its contract: it is a line of two words. Assumes nothing.
use Rattle.listing.specs.Text.{end_line}
use Rattle.listing.proofs.words.end_line.Goals as goal

pub returns : goal.returns
unfolding end_line
returns c = c.line.ensures
