-- `asc_lines::writing::put_rest` meets its contract: a text for each type. Assumes nothing.
use native.Mathlib.Omega.{arith}
use Rattle.digits.proofs.Texts.{before}
use Rattle.asc_lines.specs.Lines.{rest_of}
use Rattle.asc_lines.proofs.writing.put_rest.Goals as goal

pub returns-in-Message : goal.returns-in-Message
unfolding rest_of
returns-in-Message c = rw c.in-Message.is (before c.put_frame-a.ensures.0 c.put_id.ensures.0, omega arith)

pub returns-in-Overload : goal.returns-in-Overload
unfolding rest_of
returns-in-Overload c = rw c.in-Overload.is (c.put.ensures.0, omega arith)

pub returns-in-Statistic : goal.returns-in-Statistic
unfolding rest_of
returns-in-Statistic c = rw c.in-Statistic.is (c.put_counts.ensures.0, omega arith)
