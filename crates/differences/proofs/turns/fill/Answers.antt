-- `differences::turns::fill` meets its contract: before each turn the rows from the two cursors on complete the list.
-- Assumes nothing.
use mathlib.Core.Path.{◌≡◌, ◌∙◌}
use native.Mathlib.Omega.{arith}
use borrow.Author.Rules.{rules}
use Rattle.differences.specs.declared.turns.Kind.{Kind}
use Rattle.differences.specs.Columns.{columns}
use Rattle.differences.specs.Turns.{row}
use Rattle.differences.proofs.Turning.{taken}
use Rattle.differences.proofs.Filling.{filling_at, filling_none, less, gone_row, filling_row, filling_other, filled}
use Rattle.differences.proofs.turns.fill.Goals.{in-Ok-Row, in-Ok+in-Equal-1, in-Err-1}
use Rattle.differences.proofs.turns.fill.Goals as goal

pub loop-i-init : goal.loop-i-init
loop-i-init c = rw (c.new-c.ensures, c.new-d.ensures) (filling_none _ _ _ _ c.requires.0 c.requires.1)

pub loop-i-smaller : goal.loop-i-smaller
loop-i-smaller c =
    let k = taken c.take_turn-t.ensures in
    elim c.match-t.branch [
      | in-Ok-Row w ↦
          let e : c.take_turn-t.result.pair ≡ row w.in-Ok-Row.kind = search rules in
          let l = less c.loop-i.invariant (gone_row c.loop-i.invariant (k.pair ∙ e)) in
          omega (arith, l, k.first, k.second)
      | in-Ok+in-Equal-1 w ↦
          let o : (m : Kind) → c.take_turn-t.result.pair ≡ row m → ⊥ = λ m q. grind arith in
          let l = less c.loop-i.invariant (filling_other c.loop-i.invariant c.loop-i-test.true _ k.pair o).0 in
          omega (arith, l, k.first, k.second)
      | in-Err-1 w ↦
          let o : (m : Kind) → c.take_turn-t.result.pair ≡ row m → ⊥ = λ m q. grind arith in
          let l = less c.loop-i.invariant (filling_other c.loop-i.invariant c.loop-i-test.true _ k.pair o).0 in
          omega (arith, l, k.first, k.second)
    ]

pub loop-i-preserved : goal.loop-i-preserved
loop-i-preserved c =
    let k = taken c.take_turn-t.ensures in
    elim c.match-t.branch [
      | in-Ok-Row w ↦
          let e : c.take_turn-t.result.pair ≡ row w.in-Ok-Row.kind = search rules in
          filling_at ((λ j. columns (w.numbers-is j) (w.firsts-is j) (w.seconds-is j) (w.kinds-is j)) ∙ w.put_row.ensures) k.first k.second w.i-is
          (filling_row c.loop-i.invariant (k.pair ∙ e))
      | in-Ok+in-Equal-1 w ↦
          let o : (m : Kind) → c.take_turn-t.result.pair ≡ row m → ⊥ = λ m q. grind arith in
          filling_at (λ j. columns (w.numbers-is j) (w.firsts-is j) (w.seconds-is j) (w.kinds-is j)) k.first k.second w.i-is
          (filling_other c.loop-i.invariant c.loop-i-test.true _ k.pair o).1
      | in-Err-1 w ↦
          let o : (m : Kind) → c.take_turn-t.result.pair ≡ row m → ⊥ = λ m q. grind arith in
          filling_at (λ j. columns (w.numbers-is j) (w.firsts-is j) (w.seconds-is j) (w.kinds-is j)) k.first k.second w.i-is
          (filling_other c.loop-i.invariant c.loop-i-test.true _ k.pair o).1
    ]

pub returns : goal.returns
returns c = filled c.loop-i.invariant c.loop-i-test.false
