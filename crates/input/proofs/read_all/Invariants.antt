-- `input::read_all`: what was read so far is never more than the buffer holds, and each piece leaves less room.
use Rattle.std.proofs.Common.{length, ◌-◌}
use Rattle.input.proofs.Reading.{Reading}
use Rattle.input.proofs.read_all.Given as goal

abbrev pub invariant-loop-n : goal.invariant-loop-n
invariant-loop-n g l = Reading l.initial.buf l.buf l.n

abbrev pub decreases-loop-n : goal.decreases-loop-n
decreases-loop-n g l = length l.buf - l.n
