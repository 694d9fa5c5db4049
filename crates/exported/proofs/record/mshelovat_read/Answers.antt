-- `exported::mshelovat_read` meets its contract: no room in either slice, or the object copied. Assumes nothing.
use Rattle.outcomes.proofs.Looks.{look_within}
use Rattle.exported.proofs.Recording.{no_room, no_values, copied}
use Rattle.exported.proofs.record.mshelovat_read.Goals as goal

pub cut-o-requires : goal.cut-o-requires
cut-o-requires c = look_within _ _ _ c.look-l.ensures

pub returns-then-bytes-o : goal.returns-then-bytes-o
returns-then-bytes-o c = no_room _ _ _ _ _ c.look-l.ensures c.cut-o.ensures c.if-bytes-o.true

pub returns-then-out-lt2 : goal.returns-then-out-lt2
returns-then-out-lt2 c = no_values _ _ _ _ _ c.look-l.ensures c.cut-o.ensures c.if-bytes-o.false c.if-out-lt2.true

pub returns : goal.returns
returns c = copied _ _ _ _ _ c.look-l.ensures c.cut-o.ensures c.if-bytes-o.false c.if-out-lt2.false c.put_bytes.ensures c.tell_look.ensures
