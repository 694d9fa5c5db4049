-- `asc::record::overload_line` meets its contract: the line of what it tells. Assumes nothing.
use mathlib.Core.Path.{refl}
use Rattle.can.proofs.KnownLaws.{overload_known}
use Rattle.asc.specs.Tells.{overload, tells}
use Rattle.asc.proofs.Writings.{event_line}
use Rattle.asc.proofs.record.overload_line.Goals as goal

pub returns : goal.returns
unfolding tells
returns c = let r = c.args.r in event_line (overload r) refl (overload_known r c.well_formed.0) c.put_told.ensures
