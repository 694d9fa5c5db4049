-- `asc_lines::reading::candidate` meets its contract: a law for each kind of line. Assumes nothing.
use borrow.Author.Tests.{ne_eqb}
use Rattle.std.proofs.Common.{arith}
use Rattle.asc_lines.specs.Reading.{candidate}
use Rattle.asc_lines.proofs.reading.candidate.Goals as goal
use Rattle.asc_lines.proofs.reading.candidate.Goals.{in-79, in-83, in_default}

pub returns : goal.returns
unfolding candidate
returns c =
    let e = c.byte.ensures in
    rw (← c.read_head-h.ensures.0, ← c.read_head-h.ensures.1, ← e) (elim c.match-byte.branch [ in-79 w ↦ rw (w.body-is, w.in-79.is) | in-83 w ↦ rw (w.body-is, w.in-83.is, w.read_counts.ensures) | in_default w ↦ rw (w.body-is, w.read_frame.ensures, ne_eqb c.byte.result 79 (λ e. omega arith), ne_eqb c.byte.result 83 (λ e. omega arith)) ])
