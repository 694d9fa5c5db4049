-- `differences::turns::foremost` meets its contract: before each turn the refusal from the cursor on is that from the
-- first place on. Assumes nothing.
use mathlib.Core.Path.{◌≡◌, sym, ap, ◌∙◌}
use borrow.Author.Rules.{rules}
use Rattle.std.specs.Prelude.{None, Some, Ok}
use Rattle.objects.specs.declared.Step.{Step}
use Rattle.objects.proofs.Walks.{walking_less}
use Rattle.differences.specs.Turns.{foremost}
use Rattle.differences.proofs.Counting.{second_on, second_done, second_refused}
use Rattle.differences.proofs.turns.foremost.Goals as goal

pub loop-c-init : goal.loop-c-init
loop-c-init c = ap (foremost c.args.first.now c.args.from.at) (sym c.in-Second.is)

pub loop-c-smaller : goal.loop-c-smaller
loop-c-smaller c =
    let q : c.step-step.result.answer ≡ Ok (Some c.in-Ok-Some.field-0-0) = search rules in
    let e = ap (λ (x : Step). x.answer) (sym c.step-step.ensures) ∙ q in
    rw c.step-step.ensures (walking_less c.args.first.now c.loop-c.c.at 0 _ _ _ e)

pub loop-c-preserved : goal.loop-c-preserved
loop-c-preserved c =
    let r = c.in-Second.second in
    let q : c.step-step.result.answer ≡ Ok (Some c.in-Ok-Some.field-0-0) = search rules in
    let e = ap (λ (x : Step). x.answer) (sym c.step-step.ensures) ∙ q in
    rw c.step-step.ensures (second_on c.args.first.now c.loop-c.c.at r.number r.place e ∙ c.loop-c.invariant)

pub returns-in-Ok-None : goal.returns-in-Ok-None
returns-in-Ok-None c =
    let r = c.in-Second.second in
    let q : c.step-step.result.answer ≡ Ok None = search rules in
    second_done c.args.first.now c.loop-c.c.at r.number r.place (ap (λ (x : Step). x.answer) (sym c.step-step.ensures) ∙ q)
    ∙ c.loop-c.invariant

pub returns-in-Err : goal.returns-in-Err
returns-in-Err c =
    let r = c.in-Second.second in
    second_refused c.args.first.now c.loop-c.c.at r.number r.place (ap (λ (x : Step). x.answer) (sym c.step-step.ensures) ∙ c.in-Err.is)
    ∙ c.loop-c.invariant
