-- `digits::pairs::put_pairs` meets its contract: the last first (`Pairing`). Assumes nothing.
use mathlib.Core.Path.{◌≡◌}
use Rattle.std.specs.Slice.Iter.{iter_rest}
use Rattle.std.specs.Iterator.Adapters.{rev_source}
use Rattle.digits.proofs.PairLaws.{pairing_none, pairing_room, pairing_more, pairing_done}
use Rattle.digits.proofs.pairs.put_pairs.Goals as goal

pub loop-b-init : goal.loop-b-init
loop-b-init c =
    let s : iter_rest (rev_source c.into_iter-b-iterator.result) ≡ c.args.bytes.now = cc in
    rw s (pairing_none _ _ _ c.requires.0 c.requires.1)

pub put_pair-here-requires : goal.put_pair-here-requires
put_pair-here-requires c = pairing_room _ _ _ c.requires.0 c.requires.1 c.loop-b.invariant _ _ c.in-Some.ensures.steps

pub loop-b-preserved : goal.loop-b-preserved
loop-b-preserved c = pairing_more _ _ _ c.requires.0 c.requires.1 c.loop-b.invariant _ c.in-Some.ensures.steps c.put_pair-here.ensures

pub returns : goal.returns
returns c = pairing_done _ _ _ c.requires.0 c.requires.1 c.loop-b.invariant c.in-None.ensures.steps.0
