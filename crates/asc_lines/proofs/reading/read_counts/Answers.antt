-- `asc_lines::reading::read_counts` meets its contract: each number behind the one before. Assumes nothing.
use Rattle.asc_lines.proofs.Readings.{counts_are}
use Rattle.asc_lines.proofs.reading.read_counts.Goals as goal

pub returns : goal.returns
returns c = counts_are _ _ _ _ _ _ _ _ _ c.read_number-d.ensures.0 c.read_number-r.ensures.0 c.read_number-xd.ensures.0 c.read_number-xr.ensures.0 c.read_number-e.ensures.0 c.read_number-o.ensures.0 c.read_load-load.ensures
