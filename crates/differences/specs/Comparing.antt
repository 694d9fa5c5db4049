-- W-209: "Refusals: the first log's, then the second's, each saying which log; then 10, place 0, when the shortest slice
-- is too short, with the slices unchanged."
use Rattle.std.specs.Prelude.{ℕ, ◌≡◌, Err, cond, List, length, leb}
use Rattle.objects.specs.Answers.{Walked}
use Rattle.objects.specs.Answers as walked
use Rattle.objects.specs.Walk.{walk_of}
use Rattle.differences.specs.Answers.{Compared, Rows, First, Second, Neither}
use Rattle.differences.specs.Rows.{Row, rows_of}
use Rattle.differences.specs.Columns.{Columns, room, listed_at}

-- by the walk of the first log, that of the second, and what is told where both are well formed
abbrev pub in_order : Walked → Walked → Compared → Compared
in_order (Err r) w told = First r.number r.place
in_order (walked.Count n) (Err r) told = Second r.number r.place
in_order (walked.Count n) (walked.Count m) told = told

-- so many rows, and room for so many
abbrev pub fitted : ℕ → ℕ → Compared
fitted rows places = cond (leb rows places) (Rows rows) (Neither 10 0)

unfoldable pub compared_of : List ℕ → List ℕ → Columns → Compared
compared_of s t x = in_order (walk_of s) (walk_of t) (fitted (length (rows_of s t)) (room x))

-- the slices afterwards: the rows at their front, or as they were
abbrev pub left_by : Compared → List Row → Columns → Columns
left_by (Rows n) rs x = listed_at 0 rs x
left_by (Err e) rs x = x

-- What a comparison gives: r is the answer, and y the slices that were x; both are determined.
pub record Compares (s t : List ℕ) (r : Compared) (x y : Columns) : Type 0 where
  pub told : r ≡ compared_of s t x
  pub slices : y ≡ left_by r (rows_of s t) x
