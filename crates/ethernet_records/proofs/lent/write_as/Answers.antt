-- `ethernet_records::lent::write_as` meets its contract: refused, or header, body and padding. Assumes nothing.
use native.Mathlib.Omega.{arith}
use Rattle.std.proofs.lemmas.Grind.{common_steps}
use borrow.Author.Tests.{leb-true}
use Rattle.headers.specs.Named.{kind_of}
use Rattle.headers.proofs.TypeKinds.{known}
use Rattle.outcomes.proofs.Writing.{allowed, body_room, pad_room, ends}
use Rattle.ethernet_records.proofs.Short.{short}
use Rattle.ethernet_records.proofs.lent.write_as.Goals as goal

pub returns-in_err-begin : goal.returns-in_err-begin
returns-in_err-begin g c =
    let b = short (kind_of c.args.kind) c.requires _ c.length-n.ensures.1 c.begin.ensures in
    grind (arith, common_steps, b)

pub put-requires : goal.put-requires
put-requires g c =
    let k = known (kind_of c.args.kind) in
    let b = short (kind_of c.args.kind) c.requires _ c.length-n.ensures.1 c.begin.ensures in
    let z = c.in_ok-begin.was in (
      omega (arith, body_room k b z c.length.ensures, c.length-n.ensures.0),
      leb-true _ _ (allowed k b z).content,
    )

pub pad-requires : goal.pad-requires
pad-requires g c = omega (arith, pad_room (known (kind_of c.args.kind)) c.begin.ensures c.in_ok-begin.was c.size.ensures)

pub returns : goal.returns
returns g c =
    let b = short (kind_of c.args.kind) c.requires _ c.length-n.ensures.1 c.begin.ensures in
    rw (← c.header-h.ensures)
    (ends (known (kind_of c.args.kind)) b c.in_ok-begin.was c.length-n.ensures.0 c.length.ensures c.size.ensures c.put.ensures c.pad.ensures)
