-- `outside::past` meets its contract: before each turn the entries that are left decide. Assumes nothing.
use Rattle.std.proofs.Common.{◌≡◌, ◌/◌, length}
use Rattle.std.specs.Slice.Iter.{chunks_exact_rest, chunks_exact_size}
use Rattle.slips.specs.Cut.{entries_in}
use Rattle.desk_text.specs.Outside.{past}
use Rattle.desk_text.proofs.outside.past.Given as goal

abbrev pub invariant-loop-entry : goal.invariant-loop-entry
invariant-loop-entry l = record {
  twelve : chunks_exact_size l.entry-iterator ≡ 12;
  same : past l.len (entries_in (length (chunks_exact_rest l.entry-iterator) / 12) (chunks_exact_rest l.entry-iterator)) ≡ past l.len (entries_in (length l.entries / 12) l.entries);
}
