-- `asc_lines::writing::put_frame` meets its contract: four texts, the last first. Assumes nothing.
use mathlib.Core.Path.{◌≡◌}
use native.Mathlib.Omega.{arith}
use Rattle.digits.proofs.Texts.{four}
use Rattle.asc_lines.specs.Lines.{sort_of, way_of, frame_of}
use Rattle.asc_lines.proofs.writing.put_frame.Goals as goal
use Rattle.asc_lines.proofs.writing.put_frame.Goals.{then-f, else-f, then-f-2, else-f-2}

pub returns : goal.returns
unfolding frame_of
returns c =
    let f = c.args.f in
    let sort : c.if-f.sort.now ≡ sort_of f.remote = elim c.if-f.branch [ then-f w ↦ rw (w.sort-is, w.if-f.true) | else-f w ↦ rw (w.sort-is, w.if-f.false) ] in
    let way : c.if-f-2.way'.now ≡ way_of f.sent = elim c.if-f-2.branch [ then-f-2 w ↦ rw (w.way'-is, w.if-f-2.true) | else-f-2 w ↦ rw (w.way'-is, w.if-f-2.false) ] in
    (rw (← way, ← sort, ← c.shown.ensures.0) (four c.put_pairs-a.ensures.0 c.decimal-b.ensures.0 c.put-c.ensures.0 c.put.ensures.0), omega arith)
