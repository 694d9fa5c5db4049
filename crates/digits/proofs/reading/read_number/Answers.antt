-- `digits::reading::read_number` meets its contract: what is read so far (`Scanning`). Assumes nothing.
use native.Mathlib.Omega.{arith}
use mathlib.Core.Path.{ap, ◌∙◌}
use Rattle.digits.specs.Reading.{digit}
use Rattle.digits.proofs.Loops.{scanning_none, scanning_full, scanning_stop, scanning_inside, scanning_fits, scanning_more}
use Rattle.digits.proofs.reading.read_number.Goals as goal

pub loop-init : goal.loop-init
loop-init c = scanning_none _ _ _ _ c.requires.0 c.requires.1

pub overflow_mul-value : goal.overflow_mul-value
overflow_mul-value c = omega (arith, scanning_fits _ _ _ _ c.requires.0 c.requires.1 _ _ _ c.loop.invariant c.loop-test.true (c.digit-d.ensures ∙ ap digit c.byte.ensures) c.if-base-d.false c.requires.2)

pub overflow_add-value : goal.overflow_add-value
overflow_add-value c = omega (arith, scanning_fits _ _ _ _ c.requires.0 c.requires.1 _ _ _ c.loop.invariant c.loop-test.true (c.digit-d.ensures ∙ ap digit c.byte.ensures) c.if-base-d.false c.requires.2)

pub overflow_add-end : goal.overflow_add-end
overflow_add-end c = omega (arith, scanning_inside _ _ _ _ c.requires.0 c.requires.1 _ _ _ c.loop.invariant c.loop-test.true (c.digit-d.ensures ∙ ap digit c.byte.ensures) c.if-base-d.false)

pub loop-preserved : goal.loop-preserved
loop-preserved c = scanning_more _ _ _ _ c.requires.0 c.requires.1 _ _ _ c.loop.invariant c.loop-test.true (c.digit-d.ensures ∙ ap digit c.byte.ensures) c.if-base-d.false

pub returns-after-loop : goal.returns-after-loop
returns-after-loop c = scanning_full _ _ _ _ c.requires.0 c.requires.1 _ _ _ c.loop.invariant c.loop-test.false

pub returns-then-base-d : goal.returns-then-base-d
returns-then-base-d c = scanning_stop _ _ _ _ c.requires.0 c.requires.1 _ _ _ c.loop.invariant (c.digit-d.ensures ∙ ap digit c.byte.ensures) c.if-base-d.true
