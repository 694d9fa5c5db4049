-- `digits::pairs::put_pairs` meets its contract: the last first (`Pairing`). Assumes nothing.
use Rattle.std.specs.Slice.Iter.{iter_rest}
use Rattle.std.specs.Iterator.Adapters.{rev_source}
use Rattle.digits.proofs.PairLaws.{Pairing}
use Rattle.digits.proofs.pairs.put_pairs.Given as goal

abbrev pub invariant-loop-b : goal.invariant-loop-b
invariant-loop-b l = Pairing l.bytes l.end l.initial.out l.out l.here (iter_rest (rev_source l.b-iterator))
