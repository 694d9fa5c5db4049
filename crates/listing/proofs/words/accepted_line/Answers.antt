-- `words::accepted_line` meets its contract: its two texts stand one behind the other. Assumes nothing.
use native.Mathlib.Omega.{arith}
use Rattle.listing.specs.Text.{accepted_line}
use Rattle.listing.proofs.Texts.{on, room}
use Rattle.listing.proofs.words.accepted_line.Goals as goal

pub put-requires : goal.put-requires
put-requires c = omega (arith, room _ _ c.say-here.ensures)

pub returns : goal.returns
unfolding accepted_line
returns c = on c.say-here.ensures c.put.ensures
