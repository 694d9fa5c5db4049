-- `asc_lines::reading::read_load` meets its contract: two numbers. Assumes nothing.
use native.Mathlib.Omega.{arith}
use Rattle.asc_lines.proofs.Readings.{low, load_is}
use Rattle.asc_lines.proofs.reading.read_load.Goals as goal

pub overflow_mul-result : goal.overflow_mul-result
overflow_mul-result c = omega (arith, low 10 3 _ _ (omega arith) c.read_number-whole.ensures.0)

pub overflow_add-result : goal.overflow_add-result
overflow_add-result c = omega (arith, low 10 3 _ _ (omega arith) c.read_number-whole.ensures.0, low 10 2 _ _ (omega arith) c.read_number-part.ensures.0)

pub returns : goal.returns
returns c = load_is _ _ _ _ c.read_number-whole.ensures.0 c.read_number-part.ensures.0
