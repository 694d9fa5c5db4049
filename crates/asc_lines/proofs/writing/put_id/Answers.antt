-- `asc_lines::writing::put_id` meets its contract: three texts, the last first. Assumes nothing.
use mathlib.Core.Path.{◌≡◌}
use Prim.Native.Nat.{◌≤◌}
use native.Mathlib.Omega.{arith}
use lib.ListN.{length}
use Rattle.digits.proofs.Texts.{three}
use Rattle.asc_lines.specs.Lines.{mark_of, id_of}
use Rattle.asc_lines.proofs.writing.put_id.Goals as goal
use Rattle.asc_lines.proofs.writing.put_id.Goals.{then-f, else-f}

pub returns : goal.returns
unfolding id_of
returns c =
    let m : c.if-f.mark.now ≡ mark_of c.args.f.extended = elim c.if-f.branch [ then-f w ↦ rw (w.mark-is, w.if-f.true) | else-f w ↦ rw (w.mark-is, w.if-f.false) ] in
    let n : length c.if-f.mark.now ≤ 1 = elim c.if-f.branch [ then-f w ↦ rw w.mark-is (omega arith) | else-f w ↦ rw w.mark-is (omega arith) ] in
    (rw (← m) (three c.put-a.ensures.0 c.hex-b.ensures.0 c.put.ensures.0), omega arith)
