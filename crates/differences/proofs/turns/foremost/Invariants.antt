-- `differences::turns::foremost` meets its contract: before each turn the refusal from the cursor on is that from the
-- first place on. Assumes nothing.
use mathlib.Core.Path.{◌≡◌}
use Prim.Native.Nat.{◌-◌}
use lib.ListN.{length}
use Rattle.differences.specs.Turns.{foremost, else_second}
use Rattle.differences.proofs.turns.foremost.Given as goal

abbrev pub invariant-loop-c : goal.invariant-loop-c
invariant-loop-c l = else_second l.first l.c.at l.second.number l.second.place ≡ foremost l.first l.fn.from.at l.fn.refusal

abbrev pub decreases-loop-c : goal.decreases-loop-c
decreases-loop-c l = length l.first - l.c.at
