-- 01, "Two programs": what the desk program prints.
use Rattle.std.specs.Prelude.{ℕ, Bool, cond, ◌&&◌, None, Some, Err, List, length, take, leb}
use Rattle.slips.specs.Verdicts.{Verdict, Accepted}
use Rattle.slips.specs.Check.{check_of}
use Rattle.input.specs.Taken.{Input}
use Rattle.listing.specs.Text.{accepted_line, refused_line, outside_line, too_long_text, no_file}
use Rattle.listing.specs.Listing.{limit}
use Rattle.desk_text.specs.Outside.{outside_of}

-- `outside` stands in the place of `accepted`
abbrev pub verdict_line : Bool → Verdict → List ℕ
verdict_line out (Accepted n) = cond out outside_line (accepted_line n)
verdict_line out (Err r) = refused_line r.number r.place

unfoldable pub verdict_of : List ℕ → List ℕ → List ℕ
verdict_of s b = verdict_line (outside_of (length s) b) (check_of s b)

-- what is printed for two files that were read, of each of which a byte past the limit is enough to see that it is too
-- long
unfoldable pub judged_of : List ℕ → List ℕ → List ℕ
judged_of s b = cond (leb (length s) limit && leb (length b) limit) (verdict_of s b) too_long_text

-- what is printed for what came of reading log and bundle
unfoldable pub desk_of : Input → List ℕ → Input → List ℕ → List ℕ
desk_of (Some n) x (Some m) y = judged_of (take n x) (take m y)
desk_of (Some n) x None y = no_file
desk_of None x (Some m) y = no_file
desk_of None x None y = no_file
