-- What the inner functions speak of: one turn of the two cursors, and the count of rows.
use Rattle.std.specs.Prelude.{ℕ, ◌≡◌, cond, Some, Result, Ok, Err, List, length}
use Rattle.fields.specs.Numbers.{part}
use Rattle.fields.specs.Same.{same}
use Rattle.objects.specs.Answers.{Answer, Done}
use Rattle.objects.specs.Answers as walked
use Rattle.objects.specs.Next.{next_at}
use Rattle.objects.specs.Stepping.{met_at}
use Rattle.objects.specs.Walk.{walked_by, walk_of}
use Rattle.differences.specs.declared.LogRefusal.{LogRefusal}
use Rattle.differences.specs.declared.LogRefusal.TheVariants as log
use Rattle.differences.specs.declared.turns.Kind.{Kind}
use Rattle.differences.specs.declared.turns.Kind.TheVariants as kind
use Rattle.differences.specs.declared.turns.Pair.{Pair}
use Rattle.differences.specs.declared.turns.Pair.TheVariants as pair
use Rattle.differences.specs.declared.turns.Turn.{Turn}
use Rattle.differences.specs.Answers.{Compared, Rows, First, Second}
use Rattle.differences.specs.Rows.{rows_of}
use Rattle.differences.specs.Comparing.{in_order}

-- a step in s has answered so
abbrev pub Stepped : List ℕ → Answer → Type 0
Stepped s a = (at : ℕ) × ((next_at s at).answer ≡ a)

-- the numbers of the kinds of rows
abbrev pub number_of : Kind → ℕ
number_of kind.BytesDiffer = 1
number_of kind.OnlyFirst = 2
number_of kind.OnlySecond = 3

-- what two steps have found: the first log's refusal before all else, then the second's
abbrev pub Found : Type 0
Found = Result Pair LogRefusal

abbrev pub row : Kind → Found
row k = Ok (pair.Row k)

abbrev pub pair_of : List ℕ → List ℕ → Answer → Answer → Found
pair_of s t (Err r) b = First r.number r.place
pair_of s t (Ok o) (Err r) = Second r.number r.place
pair_of s t (Ok (Some o)) (Ok (Some p)) = cond (same (part o.size s o.start) (part p.size t p.start)) (Ok pair.Equal) (row kind.BytesDiffer)
pair_of s t (Ok (Some o)) Done = row kind.OnlyFirst
pair_of s t Done (Ok (Some p)) = row kind.OnlySecond
pair_of s t Done Done = Ok pair.End

-- a turn: a step in each log
unfoldable pub turn_of : List ℕ → ℕ → List ℕ → ℕ → Turn
turn_of s at t bt =
    record { pair = pair_of s t (next_at s at).answer (next_at t bt).answer; first = (next_at s at).next; second = (next_at t bt).next }

-- the first log's refusal from a place on, or else this one of the second
unfoldable pub else_second : List ℕ → ℕ → ℕ → ℕ → Compared
else_second s at number place = in_order (walked_by (met_at s at).ended 0) (walked.Refused number place) (Rows 0)

-- this refusal, and if it is of the second log, the first log's from a place on before it
abbrev pub foremost : List ℕ → ℕ → LogRefusal → Compared
foremost s at (log.First r) = Err (log.First r)
foremost s at (log.Second r) = else_second s at r.number r.place
foremost s at (log.Neither r) = Err (log.Neither r)

-- the first refusal, or how many rows there are
unfoldable pub count_of : List ℕ → List ℕ → Compared
count_of s t = in_order (walk_of s) (walk_of t) (Rows (length (rows_of s t)))
