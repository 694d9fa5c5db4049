-- 01, "Two programs": what the lister prints.
use Rattle.std.specs.Prelude.{ℕ, cond, None, Some, List, [], ◌∷◌, ◌++◌, length, take, leb}
use Rattle.objects.specs.declared.Entry.{Entry}
use Rattle.objects.specs.Stepping.{Ended, at_end, refused, no_step_left, met_at, objects_of}
use Rattle.input.specs.Taken.{Input}
use Rattle.listing.specs.Text.{object_line, end_line, refused_line, too_long_text, no_file}

-- a line for each object
abbrev pub lines_of : List Entry → List ℕ
lines_of [] = []
lines_of (o ∷ os) = object_line o.start o.size o.kind ++ lines_of os

-- the last line, behind n objects, by how the stepping ended and where
abbrev pub final_line : Ended → ℕ → ℕ → List ℕ
final_line at_end n at = end_line at n
final_line (refused number place) n at = refused_line number place
final_line no_step_left n at = []

unfoldable pub listing_of : List ℕ → List ℕ
listing_of s = lines_of (objects_of s) ++ final_line (met_at s 0).ended (length (objects_of s)) (met_at s 0).at

-- the most bytes of an input
abbrev pub limit : ℕ
limit = 65536

-- what is printed for a log that was read, of which a byte past the limit is enough to see that it is too long
unfoldable pub page_of : List ℕ → List ℕ
page_of s = cond (leb (length s) limit) (listing_of s) too_long_text

-- what is printed for what came of reading
unfoldable pub report_of : Input → List ℕ → List ℕ
report_of (Some n) buf = page_of (take n buf)
report_of None buf = no_file
