-- `fields::put_bytes` meets its contract: the library's copy, at a place of the buffer. Assumes nothing.
use mathlib.Core.Path.{refl}
use Rattle.fields.proofs.Writing.{copied}
use Rattle.fields.proofs.runs.put_bytes.Goals as goal

pub returns : goal.returns
returns c = copied c.args.at _ c.args.src.now c.args.buf.now _ refl c.requires c.copy_from_slice.ensures.after
