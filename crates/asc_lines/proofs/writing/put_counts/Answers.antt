-- `asc_lines::writing::put_counts` meets its contract: four texts, the last first. Assumes nothing.
use native.Mathlib.Omega.{arith}
use Rattle.digits.proofs.Texts.{four}
use Rattle.asc_lines.specs.Lines.{counts_of}
use Rattle.asc_lines.proofs.writing.put_counts.Goals as goal

pub returns : goal.returns
unfolding counts_of
returns c = (four c.put_load-b.ensures.0 c.labelled-o.ensures.0 c.labelled-e.ensures.0 c.put_frames.ensures.0, omega arith)
