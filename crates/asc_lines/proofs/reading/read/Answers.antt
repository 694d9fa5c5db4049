-- `asc_lines::reading::read` meets its contract: a law for each way out. Assumes nothing.
use native.Mathlib.Omega.{arith}
use Prim.Native.Nat.{ℕ, ◌-◌}
use mathlib.Core.Path.{◌≡◌, refl, sym, ◌∙◌, subst}
use mathlib.Core.List.{List}
use Rattle.digits.proofs.Texts.{said_part}
use Rattle.asc_lines.specs.Reading.{same}
use Rattle.asc_lines.proofs.Sames.{same_by}
use Rattle.asc_lines.proofs.Readings.{no_time, by_line}
use Rattle.asc_lines.proofs.reading.read.Goals as goal

pub returns-then-not-possible : goal.returns-then-not-possible
returns-then-not-possible c = no_time _ _ c.candidate-told.ensures (sym c.possible.ensures ∙ c.if-not-possible.true)

pub returns : goal.returns
returns c =
    let l = said_part (256 - c.put_line-n.result) c.put_line-n.ensures refl (omega arith) in
    c.then_some.ensures ∙ by_line _ _ c.candidate-told.ensures (sym c.possible.ensures ∙ c.if-not-possible.false) (subst (λ (x : List ℕ). c.same.result ≡ same x c.args.s.now) l (same_by _ _ c.same.ensures.0 c.same.ensures.1))
