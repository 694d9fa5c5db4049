-- `ethernet_records::bytes_in` meets its contract: too few bytes hold no frame, and a frame stands behind the
-- structure. Assumes nothing.
use mathlib.Core.Path.{sym, ap, ◌∙◌}
use lib.ListN.{drop}
use Rattle.headers.proofs.Bodies.{header_held, body_held, lacking, none_behind}
use Rattle.ethernet.specs.Fields.{structure_length}
use mathlib.Core.Bool.{not}
use Rattle.ethernet_records.proofs.frame.bytes_in.Goals as goal

pub returns-then-not-holds : goal.returns-then-not-holds
returns-then-not-holds c =
    let o = c.args.o.now in
    sym (none_behind o structure_length (lacking o structure_length c.holds.ensures (ap not c.if-not-holds.true)))

pub returns : goal.returns
returns c = c.frame_view.ensures ∙ ap (drop structure_length) c.body.ensures

pub body-requires : goal.body-requires
body-requires c = header_held _ _ c.holds.ensures (ap not c.if-not-holds.false)

pub frame_view-requires : goal.frame_view-requires
frame_view-requires c = body_held _ _ c.holds.ensures c.body.ensures (ap not c.if-not-holds.false)
