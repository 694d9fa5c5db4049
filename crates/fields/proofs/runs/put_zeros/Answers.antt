-- `fields::put_zeros` meets its contract: the library's fill, at a place of the buffer. Assumes nothing.
use mathlib.Core.Path.{◌≡◌}
use Prim.Native.Nat.{◌+◌, ◌-◌}
use native.Mathlib.Omega.{arith}
use lib.ListN.{length, length-replicate}
use Rattle.fields.specs.Numbers.{part, zeros}
use Rattle.fields.proofs.Parts.{length_part}
use Rattle.fields.proofs.Writing.{copied}
use Rattle.fields.proofs.runs.put_zeros.Goals as goal

pub returns : goal.returns
returns c =
    let a = c.args in
    let n : length (part (a.at + a.n - a.at) a.buf.now a.at) ≡ a.n = omega (arith, length_part (a.at + a.n - a.at) a.buf.now a.at (omega arith)) in
    copied a.at a.n (zeros a.n) a.buf.now _ (length-replicate _ _) c.requires (rw n at (c.fill.ensures.after (λ y e. e)))
