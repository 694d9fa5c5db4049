-- `asc::tells::frame_told` meets its contract: field by field; the bytes in the line are kept. Assumes nothing.
use borrow.Author.Rules.{rules}
use mathlib.Core.Path.{ap, ◌∙◌}
use Prim.Native.Nat.{ℕ, ◌%◌}
use lib.Dec.{leb}
use Rattle.asc.specs.Tells.{is_sent, is_remote, kept, frame_told}
use Rattle.asc.proofs.ToldOfRecord.{blanked}
use Rattle.asc.proofs.tells.frame_told.Goals as goal

pub returns : goal.returns
unfolding frame_told
returns c =
    let r = c.args.r in
    let b = blanked c.shown.result r.bytes (search rules) c.shown.ensures.1 (c.fill.ensures.after (λ y e. e)) ∙ ap (λ (n : ℕ). kept n r.bytes) c.shown.ensures.0 in
    λ i. record { id = r.id % 2147483648; extended = leb 2147483648 r.id; sent = is_sent r.flags; remote = is_remote r.flags; dlc = r.dlc; bytes = b i }
