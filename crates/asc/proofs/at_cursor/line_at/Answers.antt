-- `asc::at_cursor::line_at` meets its contract: a law for each answer of the step. Assumes nothing.
use mathlib.Core.Path.{◌≡◌, sym, ap, ◌∙◌}
use native.Mathlib.Omega.{arith}
use borrow.Author.Rules.{rules}
use Rattle.std.specs.Prelude.{None, Some, Ok}
use Rattle.objects.specs.declared.Step.{Step}
use Rattle.objects.proofs.Walks.{object_within}
use Rattle.asc.specs.Objects.{lined}
use Rattle.asc.proofs.Writings.{outcome_by}
use Rattle.asc.proofs.Wholes.{found_named}
use Rattle.asc.proofs.LineSteps.{step_done, step_refused, at_part}
use Rattle.asc.proofs.at_cursor.line_at.Goals as goal

pub overflow_add-o : goal.overflow_add-o
overflow_add-o c =
    let e : c.step-step.result.answer ≡ Ok (Some c.in-Ok-Some.o) = search rules in
    omega (arith, object_within _ _ _ _ _ (ap (λ (x : Step). x.answer) (sym c.step-step.ensures) ∙ e))

pub slice_bounds-line_as-end : goal.slice_bounds-line_as-end
slice_bounds-line_as-end c =
    let e : c.step-step.result.answer ≡ Ok (Some c.in-Ok-Some.o) = search rules in
    omega (arith, object_within _ _ _ _ _ (ap (λ (x : Step). x.answer) (sym c.step-step.ensures) ∙ e))

pub returns-in-Ok : goal.returns-in-Ok
returns-in-Ok c =
    let e : c.step-step.result.answer ≡ Ok (Some c.in-Ok-Some.o) = search rules in
    at_part _ _ _ c.step-step.ensures e (outcome_by (found_named _ _ _ c.of.ensures) c.line_as.ensures) (ap (lined c.args.c.at c.step-step.result.next) (sym c.in-Ok.is))

pub returns-in-Err-line_as : goal.returns-in-Err-line_as
returns-in-Err-line_as c =
    let e : c.step-step.result.answer ≡ Ok (Some c.in-Ok-Some.o) = search rules in
    at_part _ _ _ c.step-step.ensures e (outcome_by (found_named _ _ _ c.of.ensures) c.line_as.ensures) (ap (lined c.args.c.at c.step-step.result.next) (sym c.in-Err-line_as.is))

pub returns-in-Ok-None : goal.returns-in-Ok-None
returns-in-Ok-None c =
    let e : c.step-step.result.answer ≡ Ok None = search rules in
    step_done _ _ _ c.step-step.ensures e

pub returns-in-Err : goal.returns-in-Err
returns-in-Err c = step_refused _ _ _ c.step-step.ensures c.in-Err.is
