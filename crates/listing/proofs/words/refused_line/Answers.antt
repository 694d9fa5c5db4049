-- `words::refused_line` meets its contract: it is a line of two words. Assumes nothing.
use Rattle.listing.specs.Text.{refused_line}
use Rattle.listing.proofs.words.refused_line.Goals as goal

pub returns : goal.returns
unfolding refused_line
returns c = c.line.ensures
