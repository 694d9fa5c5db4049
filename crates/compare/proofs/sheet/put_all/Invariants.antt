-- `compare::put_all` stays in its sheet. Assumes nothing.
use Rattle.std.proofs.Common.{◌≤◌, length}
use Rattle.compare.proofs.sheet.put_all.Given as goal

abbrev pub invariant-loop-v : goal.invariant-loop-v
invariant-loop-v g l = l.at ≤ length l.out
