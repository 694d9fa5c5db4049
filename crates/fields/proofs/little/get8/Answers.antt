-- `fields::get8` meets its contract: a field of one byte is the byte. Assumes nothing.
use mathlib.Core.Path.{sym}
use native.Mathlib.Omega.{arith}
use Rattle.fields.proofs.Numbers.{num_one}
use Rattle.fields.proofs.little.get8.Goals as goal

pub returns : goal.returns
returns c = sym (num_one c.args.s.now c.args.at (omega arith))
