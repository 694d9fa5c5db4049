-- `fields::put32` meets its contract: the library's bytes, written. Assumes nothing.
use Rattle.fields.proofs.Halves.{le_low_first}
use Rattle.fields.proofs.little.put32.Goals as goal

pub returns : goal.returns
returns c = rw (← le_low_first 4 c.args.v, ← c.to_le_bytes.ensures) c.put_bytes.ensures
