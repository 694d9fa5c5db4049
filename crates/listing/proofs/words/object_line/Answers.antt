-- `words::object_line` meets its contract: its two texts stand one behind the other. Assumes nothing.
use native.Mathlib.Omega.{arith}
use Rattle.listing.specs.Text.{object_line}
use Rattle.listing.proofs.Texts.{on, room}
use Rattle.listing.proofs.words.object_line.Goals as goal

pub line-requires : goal.line-requires
line-requires c = omega (arith, room _ _ c.say-here.ensures)

pub returns : goal.returns
unfolding object_line
returns c = on c.say-here.ensures c.line.ensures
