-- W-201: a text read as a line. Its numbers are taken out of it, at most so many digits of each and what fits the
-- field; then it is what they tell where a stamp can have this time and their line is this very text. What that means
-- of records is `line_exact` and `no_line_exact` of asc/proofs/Exact.
use Rattle.std.specs.Prelude.{ℕ, ◌+◌, ◌*◌, ◌/◌, ◌%◌, Bool, true, false, cond, ◌&&◌, ◌||◌, Option, Some, None, List, [], ◌∷◌, get_or, ltb, eqb}
use Rattle.digits.specs.Reading.{number}
use Rattle.digits.specs.Pairs.{filled}
use Rattle.digits.specs.declared.reading.Number.{Number}
use Rattle.asc_lines.specs.declared.told.Head.{Head}
use Rattle.asc_lines.specs.declared.told.Frame.{Frame}
use Rattle.asc_lines.specs.declared.told.Counts.{Counts}
use Rattle.asc_lines.specs.declared.told.Told.{Told}
use Rattle.asc_lines.specs.Told.{of_message, of_overload, of_statistic, shown}
use Rattle.asc_lines.specs.Lines.{line_of}

-- whether a byte stands at a place
abbrev pub stands : ℕ → List ℕ → ℕ → Bool
stands c s at = eqb (get_or s at 0) c

-- `TIME CHANNEL`: fifteen digits hold every time's seconds
unfoldable pub seconds_in : List ℕ → Number
seconds_in s = number 10 15 s 0

unfoldable pub nanos_in : List ℕ → Number
nanos_in s = number 10 9 s ((seconds_in s).end + 1)

unfoldable pub channel_in : List ℕ → Number
channel_in s = number 10 5 s ((nanos_in s).end + 1)

unfoldable pub head_in : List ℕ → Head
head_in s = record { seconds = (seconds_in s).value; nanos = (nanos_in s).value; channel = (channel_in s).value % 65536 }

-- the place behind the channel
abbrev pub head_end : List ℕ → ℕ
head_end s = (channel_in s).end

-- ` ID Rx d DLC BYTES` from a place on
unfoldable pub id_in : List ℕ → ℕ → Number
id_in s at = number 16 8 s (at + 1)

unfoldable pub mid_in : List ℕ → ℕ → ℕ
mid_in s at = (id_in s at).end + cond (stands 120 s (id_in s at).end) 1 0

unfoldable pub dlc_in : List ℕ → ℕ → Number
dlc_in s at = number 10 3 s (mid_in s at + 6)

unfoldable pub frame_in : List ℕ → ℕ → Frame
frame_in s at =
    record {
      id = (id_in s at).value % 2147483648;
      extended = stands 120 s (id_in s at).end;
      sent = stands 84 s (mid_in s at + 1);
      remote = stands 114 s (mid_in s at + 4);
      dlc = (dlc_in s at).value % 256;
      bytes = filled (shown (stands 114 s (mid_in s at + 4)) ((dlc_in s at).value % 256)) s (dlc_in s at).end;
    }

-- ` Statistic: D n R n XD n XR n E n O n B p.pp%` from a place on
unfoldable pub count_in : List ℕ → ℕ → Number
count_in s at = number 10 10 s at

abbrev pub d_in : List ℕ → ℕ → Number
d_in s at = count_in s (at + 14)

abbrev pub r_in : List ℕ → ℕ → Number
r_in s at = count_in s ((d_in s at).end + 3)

abbrev pub xd_in : List ℕ → ℕ → Number
xd_in s at = count_in s ((r_in s at).end + 4)

abbrev pub xr_in : List ℕ → ℕ → Number
xr_in s at = count_in s ((xd_in s at).end + 4)

abbrev pub e_in : List ℕ → ℕ → Number
e_in s at = count_in s ((xr_in s at).end + 3)

abbrev pub o_in : List ℕ → ℕ → Number
o_in s at = count_in s ((e_in s at).end + 3)

-- p.pp
unfoldable pub whole_in : List ℕ → ℕ → Number
whole_in s at = number 10 3 s (at + 3)

unfoldable pub load_in : List ℕ → ℕ → ℕ
load_in s at = (100 * (whole_in s at).value + (number 10 2 s ((whole_in s at).end + 1)).value) % 65536

unfoldable pub counts_in : List ℕ → ℕ → Counts
counts_in s at =
    record {
      load = load_in s (o_in s at).end;
      standard_data = (d_in s at).value % 4294967296;
      extended_data = (xd_in s at).value % 4294967296;
      standard_remote = (r_in s at).value % 4294967296;
      extended_remote = (xr_in s at).value % 4294967296;
      errors = (e_in s at).value % 4294967296;
      overloads = (o_in s at).value % 4294967296;
    }

-- what a text tells, if it is a line: an `O` or an `S` behind the channel says which
unfoldable pub candidate : List ℕ → Told
candidate s =
    cond (stands 79 s (head_end s + 1)) (of_overload (head_in s))
    (cond (stands 83 s (head_end s + 1)) (of_statistic (head_in s) (counts_in s (head_end s)))
    (of_message (head_in s) (frame_in s (head_end s))))

-- a time that a stamp of 64 bits has, in nanoseconds or in tens of microseconds
unfoldable pub possible_time : ℕ → ℕ → Bool
possible_time seconds nanos =
    ltb nanos 1000000000
    && (ltb (seconds * 1000000000 + nanos) 18446744073709551616
    || (eqb (nanos % 10000) 0 && ltb (seconds * 100000 + nanos / 10000) 18446744073709551616))

unfoldable pub same : List ℕ → List ℕ → Bool
same [] [] = true
same [] (y ∷ ys) = false
same (x ∷ xs) [] = false
same (x ∷ xs) (y ∷ ys) = eqb x y && same xs ys

-- what a text tells; none where it is no line
unfoldable pub line_in : List ℕ → Option Told
line_in s =
    let t = candidate s in
    cond (possible_time t.head.seconds t.head.nanos && same (line_of t) s) (Some t) None
