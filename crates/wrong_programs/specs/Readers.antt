-- 01, "What a reader of the contracts must find" and "Slips of the pen": wrong readers, each a step as `Cursor::step`
-- is, and its walk.
use Rattle.std.specs.Prelude.{ℕ, zero, suc, ◌+◌, ◌*◌, ◌/◌, ◌%◌, Bool, cond, not, ◌&&◌, ◌||◌, Some, Ok, Err, List, [], ◌∷◌, ◌++◌, length, take, drop, eqb, leb}
use Rattle.fields.specs.Numbers.{part, num, all_zero}
use Rattle.fields.specs.Rules.{shifted}
use Rattle.fields.specs.Wrong.{wrong_byte}
use Rattle.headers.specs.Format.{extent, size_at, kind_at, first_length, second_at, length_at, header_gaps, header_blank}
use Rattle.headers.specs.Rows.{row_of, listed, allowed}
use Rattle.objects.specs.declared.Step.{Step}
use Rattle.objects.specs.Answers.{Answer, Object, Done, Refused, Walked}
use Rattle.objects.specs.Answers as walked
use Rattle.objects.specs.Faults.{gaps_of}
use Rattle.objects.specs.Table.{Row, row, table, first_of}
use Rattle.objects.specs.Next.{cursor, fault_of, place_in}
use Rattle.objects.specs.Walk.{walk_of}

-- a step by its own number (0: nothing is at fault), its own place of a number and its own next position; at the log's
-- end it is done
abbrev pub answer : (ℕ → List ℕ → ℕ) → List ℕ → ℕ → ℕ → ℕ → Step
answer place t at next zero = record { answer = Object at (size_at t) (kind_at t); next = cursor next }
answer place t at next (suc n) = record { answer = Refused (suc n) (at + place (suc n) t); next = cursor at }

abbrev pub step_with : (ℕ → List ℕ → ℕ) → (List ℕ → ℕ → ℕ) → (List ℕ → ℕ → ℕ) → List ℕ → ℕ → Step
step_with place fault next s at = cond (eqb at (length s)) (record { answer = Done; next = cursor at }) (answer place (drop at s) at (next s at) (fault s at))

-- the same with each number's place as it should be
abbrev pub step_by : (List ℕ → ℕ → ℕ) → (List ℕ → ℕ → ℕ) → List ℕ → ℕ → Step
step_by fault next s at = step_with place_in fault next s at

-- the walk by a step, in at most `fuel` steps
abbrev pub go_on : (ℕ → Walked) → ℕ → ℕ → Answer → Walked
go_on on next n (Ok (Some o)) = on next
go_on on next n Done = walked.Count n
go_on on next n (Err r) = Err r

abbrev pub walk_from : (List ℕ → ℕ → Step) → ℕ → List ℕ → ℕ → ℕ → Walked
walk_from step zero s at n = walked.Count n
walk_from step (suc fuel) s at n = go_on (λ next. walk_from step fuel s next (n + 1)) (step s at).next.at n (step s at).answer

abbrev pub walk_by : (List ℕ → ℕ → Step) → List ℕ → Walked
walk_by step s = walk_from step (suc (length s)) s 0 0

-- behind object and padding, as it should be
abbrev pub behind : List ℕ → ℕ → ℕ
behind s at = at + extent (size_at (drop at s))

-- the tests with the one of this number let through where `free` says so
abbrev pub let_through : ℕ → Bool → List Row → List Row
let_through n free [] = []
let_through n free (r ∷ rs) = row r.number (r.holds || (free && eqb r.number n)) r.place ∷ let_through n free rs

abbrev pub refuses_all : List ℕ → ℕ → Step
refuses_all = step_by (λ s at. 2) behind

abbrev pub accepts_all : List ℕ → ℕ → Step
accepts_all = step_by (λ s at. 0) behind

-- judges the first object and only steps over the others
abbrev pub first_only : List ℕ → ℕ → Step
first_only = step_by (λ s at. cond (eqb at 0) (fault_of s) 0) behind

-- takes the size to include the padding
abbrev pub padding_in_size : List ℕ → ℕ → Step
padding_in_size = step_by (λ s at. fault_of (drop at s)) (λ s at. at + size_at (drop at s))

-- W-204: goes on where the size is filled up to a multiple of four, as document 01 did
abbrev pub filled_up : List ℕ → ℕ → Step
filled_up = step_by (λ s at. fault_of (drop at s)) (λ s at. at + (size_at (drop at s) + 3) / 4 * 4)

-- steps over foreign objects without testing the padding
abbrev pub foreign_untested : List ℕ → ℕ → Step
foreign_untested = step_by (λ s at. first_of (let_through 6 (not (listed (row_of (kind_at (drop at s))))) (table (drop at s)))) behind

-- the same for the log's last object
abbrev pub last_untested : List ℕ → ℕ → Step
last_untested = step_by (λ s at. first_of (let_through 6 (eqb (behind s at) (length s)) (table (drop at s)))) behind

-- adds start and size in 32 bits: an end that wraps is not past the log's
abbrev pub behind32 : List ℕ → ℕ → ℕ
behind32 s at = behind s at % 4294967296

abbrev pub sum32 : List ℕ → ℕ → Step
sum32 = step_by (λ s at. first_of (let_through 5 (leb (behind32 s at) (length s)) (table (drop at s)))) behind32

-- W-202: tries 3 before 4 for the listed types too
abbrev pub three_before_four : List Row → List Row
three_before_four rs = take 2 rs ++ take 1 (drop 3 rs) ++ take 1 (drop 2 rs) ++ drop 4 rs

abbrev pub size_first : List ℕ → ℕ → Step
size_first = step_by (λ s at. first_of (three_before_four (table (drop at s)))) behind

-- W-202: lets version 2 with length 32 through
abbrev pub mixed_pair : List ℕ → ℕ → Step
mixed_pair = step_by (λ s at. first_of (let_through 4 (eqb (num 2 (drop at s) 4) 32 && eqb (num 2 (drop at s) 6) 2) (table (drop at s)))) behind

-- W-202: takes the first header's sizes under the second
abbrev pub first_sizes : List ℕ → ℕ → Step
first_sizes = step_by (λ s at. first_of (let_through 3 (allowed (row_of (kind_at (drop at s))) (size_at (drop at s))) (table (drop at s)))) behind

-- W-202: tests the reserved bytes of the body alone
abbrev pub header_untested : List ℕ → ℕ → Step
header_untested = step_by (λ s at. first_of (let_through 8 (not (header_blank (drop at s))) (table (drop at s)))) behind

-- W-205: a step with its own places; all else is as it should be
abbrev pub placed_by : (ℕ → List ℕ → ℕ) → List ℕ → ℕ → Step
placed_by place = step_with place (λ s at. fault_of (drop at s)) behind

-- the object's start for every number, as document 01 did
abbrev pub at_start : List ℕ → ℕ → Step
at_start = placed_by (λ n t. 0)

-- a place of its own for one number
abbrev pub placed_at : ℕ → (List ℕ → ℕ) → List ℕ → ℕ → Step
placed_at m place = placed_by (λ n t. cond (eqb n m) (place t) (place_in n t))

-- 4 at the version field
abbrev pub at_version : List ℕ → ℕ → Step
at_version = placed_at 4 (λ t. 6)

-- 5 where the object, by its size, would end
abbrev pub at_objects_end : List ℕ → ℕ → Step
at_objects_end = placed_at 5 (λ t. extent (size_at t))

-- 6 at the padding's first byte, whichever is wrong
abbrev pub at_padding : List ℕ → ℕ → Step
at_padding = placed_at 6 (λ t. size_at t)

-- 8 of the body before 8 of the header
abbrev pub body_first : List ℕ → ℕ → Step
body_first = placed_at 8 (λ t. wrong_byte (shifted (length_at t) (gaps_of (kind_at t))) t (wrong_byte (header_gaps (second_at t)) t 0))

-- 8 of the body as if every header were the first
abbrev pub first_headers : List ℕ → ℕ → Step
first_headers = placed_at 8 (λ t. wrong_byte (shifted first_length (gaps_of (kind_at t))) t 0)

-- counts one object more than there is
abbrev pub one_more : Walked → Walked
one_more (walked.Count n) = walked.Count (suc n)
one_more (Err r) = Err r

abbrev pub counts_one_more : List ℕ → Walked
counts_one_more s = one_more (walk_of s)

-- counts so many objects, whatever the log
abbrev pub counts : ℕ → List ℕ → Walked
counts n s = walked.Count n

-- W-208: the test of this number not made on a CAN FD message where `free` says so
abbrev pub fd_free : ℕ → (List ℕ → Bool) → List ℕ → ℕ → Step
fd_free n free = step_by (λ s at. first_of (let_through n (eqb (kind_at (drop at s)) 100 && free (drop at s)) (table (drop at s)))) behind

-- tests the valid bytes against 65
abbrev pub to65 : List ℕ → ℕ → Step
to65 = fd_free 9 (λ t. eqb (num 1 t 46) 65)

-- takes python-can's 116 bytes
abbrev pub size116 : List ℕ → ℕ → Step
size116 = fd_free 3 (λ t. eqb (size_at t) 116)

-- does not test the reserved u32 at 116
abbrev pub end_untested : List ℕ → ℕ → Step
end_untested = fd_free 8 (λ t. all_zero (part 5 t 47))

-- refuses valid bytes above the DLC
abbrev pub by_dlc : List ℕ → ℕ → Step
by_dlc = step_by (λ s at. cond (leb (num 1 (drop at s) 46) (num 1 (drop at s) 35)) (fault_of (drop at s)) 9) behind
