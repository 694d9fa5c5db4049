-- `asc::record::put_told` meets its contract: 7 by the unit, else the line of what is told. Assumes nothing.
use native.Mathlib.Omega.{arith}
use Prim.Native.Nat.{◌-◌}
use mathlib.Core.Path.{refl, sym, ap, ◌∙◌}
use Rattle.asc_lines.specs.declared.told.Head.{Head}
use Rattle.asc_lines.specs.Lines.{line_of}
use Rattle.digits.proofs.Texts.{said_part}
use Rattle.asc.proofs.Writings.{unit_refused, unit_taken}
use Rattle.asc.proofs.record.put_told.Goals as goal

pub returns-then-not-unit_ok : goal.returns-then-not-unit_ok
returns-then-not-unit_ok c = rw c.at.ensures (unit_refused _ _ (sym c.unit_ok.ensures ∙ c.if-not-unit_ok.true))

pub returns : goal.returns
returns c =
    unit_taken _ _ (sym c.unit_ok.ensures ∙ c.if-not-unit_ok.false)
    (said_part (256 - c.put_line-n.result) c.put_line-n.ensures refl (omega arith) ∙ ap (λ (d : Head). line_of (record { head = d; body = c.args.body })) c.head_told-head.ensures) c.copy_line.ensures
