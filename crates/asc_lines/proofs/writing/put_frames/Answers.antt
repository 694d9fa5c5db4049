-- `asc_lines::writing::put_frames` meets its contract: four texts, the last first. Assumes nothing.
use native.Mathlib.Omega.{arith}
use Rattle.digits.proofs.Texts.{four}
use Rattle.asc_lines.proofs.writing.put_frames.Goals as goal

pub returns : goal.returns
returns c = (four c.labelled-xr.ensures.0 c.labelled-xd.ensures.0 c.labelled-r.ensures.0 c.labelled.ensures.0, omega arith)
