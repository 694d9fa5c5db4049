-- `asc_lines::reading::read_head` meets its contract: three numbers, each behind the one before. Assumes nothing.
use native.Mathlib.Omega.{arith}
use Rattle.asc_lines.proofs.Readings.{low, head_is, head_end_is}
use Rattle.asc_lines.proofs.reading.read_head.Goals as goal

pub overflow_cast-head : goal.overflow_cast-head
overflow_cast-head c = omega (arith, low 10 9 _ _ (omega arith) c.read_number-b.ensures.0)

pub returns : goal.returns
returns c = (head_is _ _ _ _ c.read_number-a.ensures.0 c.read_number-b.ensures.0 c.read_number-c.ensures.0, head_end_is _ _ _ _ c.read_number-a.ensures.0 c.read_number-b.ensures.0 c.read_number-c.ensures.0, omega arith)
