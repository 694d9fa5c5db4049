-- `asc_lines::reading::read_frame` meets its contract: each number and mark behind the one before. Assumes nothing.
use mathlib.Core.Path.{◌≡◌, ap}
use mathlib.Core.Bool.{cond}
use Prim.Native.Nat.{ℕ, ◌+◌}
use lib.Dec.{eqb}
use Rattle.std.proofs.Common.{arith}
use Rattle.std.proofs.lemmas.Bool.Decides.{nat_tests}
use Rattle.asc_lines.proofs.Readings.{frame_is}
use Rattle.asc_lines.proofs.reading.read_frame.Goals as goal

pub returns : goal.returns
returns c =
    let m : c.from.result ≡ cond (eqb c.byte-extended.result 120) 1 0 = grind (arith, nat_tests) in
    frame_is _ _ _ _ _ _ _ _ _ _ c.read_number-id.ensures.0 c.byte-extended.ensures (ap (λ (n : ℕ). c.read_number-id.result.end + n) m) c.byte-sent.ensures c.byte-remote.ensures c.read_number-dlc.ensures.0 c.shown.ensures.0 c.get_pairs-bytes.ensures
