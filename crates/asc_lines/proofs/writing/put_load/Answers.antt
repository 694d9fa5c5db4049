-- `asc_lines::writing::put_load` meets its contract: four texts, the last first. Assumes nothing.
use native.Mathlib.Omega.{arith}
use Rattle.digits.proofs.Texts.{four}
use Rattle.asc_lines.specs.Lines.{load_of}
use Rattle.asc_lines.proofs.writing.put_load.Goals as goal

pub returns : goal.returns
unfolding load_of
returns c = (four c.put-a.ensures.0 c.spell-b.ensures.0 c.put-c.ensures.0 c.labelled.ensures.0, omega arith)
