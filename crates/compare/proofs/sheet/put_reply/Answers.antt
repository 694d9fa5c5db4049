-- `compare::put_reply` meets its contract: one number behind the other. Assumes nothing.
use mathlib.Core.Path.{refl}
use Rattle.fields.specs.Digits.{le}
use Rattle.fields.proofs.Writing.{then}
use Rattle.compare.proofs.sheet.put_reply.Goals as goal

pub returns : goal.returns
unfolding le
returns c =
    then (then (then (then c.put64.ensures c.put64-2.ensures refl) c.put64-3.ensures refl) c.put64-4.ensures refl) c.put64-5.ensures refl
