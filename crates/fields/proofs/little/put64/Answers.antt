-- `fields::put64` meets its contract: the library's bytes, written. Assumes nothing.
use Rattle.fields.proofs.Halves.{le_low_first}
use Rattle.fields.proofs.little.put64.Goals as goal

pub returns : goal.returns
returns c = rw (← le_low_first 8 c.args.v, ← c.to_le_bytes.ensures) c.put_bytes.ensures
