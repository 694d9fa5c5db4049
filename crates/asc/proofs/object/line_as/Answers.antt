-- `asc::object::line_as` meets its contract: a law for each type. Assumes nothing.
use mathlib.Core.Path.{◌≡◌}
use borrow.Author.Rules.{rules}
use Rattle.std.specs.Prelude.{Some}
use Rattle.headers.specs.declared.kind.Kind.TheVariants as code
use Rattle.asc.proofs.Writings.{outcome_by, nothing_written}
use Rattle.asc.proofs.Wholes.{as_message, as_overload, as_statistic, no_event}
use Rattle.asc.proofs.object.line_as.Goals as goal

pub returns-in_default : goal.returns-in_default
returns-in_default c = rw c.in_default.is nothing_written

pub returns-in-CanMessage : goal.returns-in-CanMessage
returns-in-CanMessage c =
    let e : c.args.kind ≡ Some code.CanMessage = search rules in
    outcome_by (as_message _ e c.message_in.ensures) c.message_line.ensures

pub returns-in-CanOverload : goal.returns-in-CanOverload
returns-in-CanOverload c =
    let e : c.args.kind ≡ Some code.CanOverload = search rules in
    outcome_by (as_overload _ e c.overload_in.ensures) c.overload_line.ensures

pub returns-in-CanStatistic : goal.returns-in-CanStatistic
returns-in-CanStatistic c =
    let e : c.args.kind ≡ Some code.CanStatistic = search rules in
    outcome_by (as_statistic _ e c.statistic_in.ensures) c.statistic_line.ensures

pub returns-in_default-kind : goal.returns-in_default-kind
returns-in_default-kind c =
    let d = c.in_default-kind in
    outcome_by (rw c.in-Some.is (no_event _ _ d.not-CanMessage d.not-CanOverload d.not-CanStatistic)) nothing_written
