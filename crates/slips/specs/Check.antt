-- 01, "Slips": what the check answers. "Order: 28 (place 0); then slip by slip 24, 20, 21, 22, 23; then the log walk's
-- 1 to 9; then, at the smallest start in trouble, 25 before 26 before 27. Acceptance returns the number of objects."
use Rattle.std.specs.Prelude.{ℕ, cond, Err, List, length, ltb}
use Rattle.objects.specs.Answers.{Walked, Count}
use Rattle.objects.specs.declared.Entry.{Entry}
use Rattle.objects.specs.Stepping.{objects_of}
use Rattle.objects.specs.Walk.{walk_of}
use Rattle.slips.specs.Verdicts.{Verdict, Accepted, Refused}
use Rattle.slips.specs.Cut.{Cut, Slips, Fault, cut_of}
use Rattle.slips.specs.Right.{entries_on}
use Rattle.slips.specs.Trouble.{Trouble, None, Found}
use Rattle.slips.specs.Claims.{longest}
use Rattle.slips.specs.Soonest.{trouble_of}

-- the log's own refusals come before the trouble
abbrev pub answer_of : Walked → Trouble → Verdict
answer_of (Err r) t = Refused r.number r.place
answer_of (Count n) (Found k x) = Refused k x
answer_of (Count n) None = Accepted n

-- and the bundle's before the log's
abbrev pub judged_of : Walked → List Entry → Cut → Verdict
judged_of w os (Fault k p) = Refused k p
judged_of w os (Slips ss) = answer_of w (trouble_of os (entries_on ss))

unfoldable pub check_of : List ℕ → List ℕ → Verdict
check_of s b = cond (ltb longest (length s)) (Refused 28 0) (judged_of (walk_of s) (objects_of s) (cut_of b))
