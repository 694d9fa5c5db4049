-- `slips::rises` meets its contract: before each turn the entries that are left decide. Assumes nothing.
use Rattle.std.proofs.Common.{◌≡◌, ◌/◌, length}
use Rattle.slips.specs.Cut.{entries_in, rises_from}
use Rattle.std.specs.Slice.Iter.{chunks_exact_rest, chunks_exact_size}
use Rattle.slips.proofs.bundle.rises.Given as goal

abbrev pub invariant-loop-entry : goal.invariant-loop-entry
invariant-loop-entry l = record {
  twelve : chunks_exact_size l.entry-iterator ≡ 12;
  same : rises_from l.least (entries_in (length (chunks_exact_rest l.entry-iterator) / 12) (chunks_exact_rest l.entry-iterator)) ≡ rises_from 0 (entries_in (length l.entries / 12) l.entries);
}
