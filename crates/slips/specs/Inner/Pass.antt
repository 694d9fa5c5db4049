-- The one pass over the log, the walk and the merge together.
use Rattle.std.specs.Prelude.{ℕ, List}
use Rattle.objects.specs.declared.Entry.{Entry}
use Rattle.objects.specs.Answers as walked
use Rattle.objects.specs.Stepping.{objects_of}
use Rattle.objects.specs.Walk.{walk_of}
use Rattle.slips.specs.Verdicts.{Verdict}
use Rattle.slips.specs.Check.{answer_of}
use Rattle.slips.specs.Inner.Merge.{the_end, low_of, finish, merge_of}

-- behind the last of n objects: an entry that is left is stray
unfoldable pub at_end_of : List (List Entry) → ℕ → Verdict
at_end_of ss n = answer_of (walked.Count n) (finish (low_of the_end ss))

unfoldable pub merge_log_of : List ℕ → List (List Entry) → Verdict
merge_log_of s ss = answer_of (walk_of s) (merge_of (objects_of s) ss)
