-- `words::line` meets its contract: its three texts stand one behind the other. Assumes nothing.
use native.Mathlib.Omega.{arith}
use Rattle.listing.specs.Text.{line_of}
use Rattle.listing.proofs.Texts.{on, room}
use Rattle.listing.proofs.words.line.Goals as goal

pub say-second-requires : goal.say-second-requires
say-second-requires c = omega (arith, room _ _ c.say-first.ensures)

pub put-requires : goal.put-requires
put-requires c = omega (arith, room _ _ c.say-first.ensures, room _ _ c.say-second.ensures)

pub returns : goal.returns
unfolding line_of
returns c = on (on c.say-first.ensures c.say-second.ensures) c.put.ensures
